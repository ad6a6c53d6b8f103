use Rattle.std.proofs.Common.{take}
use Rattle.std.specs.Prelude.{All}
use Rattle.query_engine.specs.Labels.{IsWholeLabel}
use Rattle.query_engine.proofs.simple.are_whole.Given as goal

abbrev pub invariant-loop-label : goal.invariant-loop-label
invariant-loop-label l = All (λ x. IsWholeLabel x.linkage x.tail x.name.now) (take l.label-index l.labels)
