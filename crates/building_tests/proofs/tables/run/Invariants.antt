use Rattle.std.proofs.Common.{◌≡◌, length}
use Rattle.query_engine.specs.Asked.{TailsFit}
use Rattle.building_tests.proofs.tables.run.Given as goal

abbrev pub invariant-loop-step : goal.invariant-loop-step
invariant-loop-step l = record { tails : TailsFit l.entries.items; len : length l.entries.items ≡ l.step }
