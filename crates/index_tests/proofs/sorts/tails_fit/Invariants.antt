use Rattle.std.proofs.Common.{take}
use Rattle.query_engine.specs.Asked.{TailsFit}
use Rattle.index_tests.proofs.sorts.tails_fit.Given as goal

abbrev pub invariant-loop-entry : goal.invariant-loop-entry
invariant-loop-entry l = TailsFit (take l.entry-index l.entries)
