use Rattle.std.proofs.Common.{◌≡◌, take}
use Rattle.std.specs.Prelude.{count_by}
use Rattle.gdbindex_write.proofs.NumberLaws.{is_plain}
use Rattle.gdbindex_write.proofs.numbers.count_plain.Given as goal

abbrev pub invariant-loop-unit : goal.invariant-loop-unit
invariant-loop-unit l = l.count ≡ count_by is_plain (take l.unit-index l.units)
