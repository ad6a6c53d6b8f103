use Rattle.std.proofs.Common.{take}
use Rattle.std.specs.Prelude.{All}
use Rattle.gdbindex_write.specs.Writable.{HasUnit}
use Rattle.debugnames_write.specs.Conditions.{IsInside}
use Rattle.index_tests.proofs.too_large.are_inside.Given as goal

abbrev pub invariant-loop-entry : goal.invariant-loop-entry
invariant-loop-entry l = record {
  gdb : All (HasUnit l.units) (take l.entry-index l.entries);
  names : All (IsInside l.units) (take l.entry-index l.entries);
}
