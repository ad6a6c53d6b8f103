use Rattle.std.proofs.Common.{◌≡◌, ◌++◌, take}
use Rattle.index_model.specs.NameIndex.{unit_offsets}
use Rattle.debugnames_write.proofs.units.push_unit_offsets.Given as goal

abbrev pub invariant-loop-unit : goal.invariant-loop-unit
invariant-loop-unit l = l.out.items ≡ l.initial.out.items ++ unit_offsets l.types (take l.unit-index l.units)
