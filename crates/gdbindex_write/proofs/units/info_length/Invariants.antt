use Rattle.std.proofs.Common.{◌≡◌, take}
use Rattle.std.specs.Prelude.{sum_by}
use Rattle.gdbindex_write.specs.Units.{info_part}
use Rattle.gdbindex_write.proofs.units.info_length.Given as goal

abbrev pub invariant-loop-unit : goal.invariant-loop-unit
invariant-loop-unit l = l.total ≡ sum_by info_part (take l.unit-index l.units)
