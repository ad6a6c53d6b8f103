use Rattle.std.proofs.Common.{All, take}
use Rattle.debugnames_write.specs.Conditions.{IsInside}
use Rattle.index_tests.proofs.sorts.all_inside.Given as goal

abbrev pub invariant-loop-entry : goal.invariant-loop-entry
invariant-loop-entry l = All (IsInside l.units) (take l.entry-index l.entries)
