use Rattle.std.proofs.Common.{◌≡◌, take}
use Rattle.std.specs.Prelude.{filter_map}
use Rattle.query_engine.specs.Marked.{renumbered}
use Rattle.query_engine.proofs.spelled.marks_by.Given as goal

abbrev pub invariant-loop-mark : goal.invariant-loop-mark
invariant-loop-mark l = l.kept.items ≡ filter_map (renumbered l.numbers) (take l.mark-index l.marks)
