use Rattle.std.proofs.Common.{◌≡◌, ◌*◌, length}
use Rattle.std.specs.Prelude.{flat_map}
use Rattle.query_engine.specs.Asked.{TailsFit}
use Rattle.building_tests.proofs.tables.merged.Given as goal

abbrev pub invariant-loop-step : goal.invariant-loop-step
invariant-loop-step g l = record {
  tails : TailsFit (flat_map (λ run. run) l.runs.items);
  len : length (flat_map (λ run. run) l.runs.items) ≡ 3750 * l._step;
}
