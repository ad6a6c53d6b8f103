use Rattle.std.proofs.Common.{◌≡◌, ◌++◌, take}
use Rattle.std.specs.Prelude.{flat_map}
use Rattle.gdbindex_write.specs.Units.{types_bytes}
use Rattle.gdbindex_write.proofs.units.put_types_list.Given as goal

abbrev pub invariant-loop-unit : goal.invariant-loop-unit
invariant-loop-unit l = l.out.items ≡ l.initial.out.items ++ flat_map (types_bytes l.info) (take l.unit-index l.units)
