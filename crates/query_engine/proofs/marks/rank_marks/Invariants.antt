use Rattle.std.proofs.Common.{◌≡◌, ◌++◌, take, drop, map}
use Rattle.query_engine.specs.Marks.{ranked}
use Rattle.query_engine.proofs.marks.rank_marks.Given as goal

abbrev pub invariant-loop-i : goal.invariant-loop-i
invariant-loop-i l = l.marks.items ≡ map (ranked l.ranks) (take l.i l.initial.marks.items) ++ drop l.i l.initial.marks.items
