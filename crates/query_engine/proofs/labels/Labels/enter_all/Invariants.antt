use Rattle.std.proofs.Common.{◌≡◌}
use Rattle.query_engine.proofs.labels.Labels.enter_all.Given as goal

abbrev pub invariant-loop-slot : goal.invariant-loop-slot
invariant-loop-slot l = l.self.list ≡ l.initial.self.list
