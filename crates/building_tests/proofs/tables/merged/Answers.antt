use Rattle.std.proofs.Common.{List, length, ap, ◌∙◌, arith, length-append}
use Rattle.std.specs.Prelude.{flat_map, ◌≤◌}
use Rattle.std.proofs.lemmas.List.Elements.{All-append}
use Rattle.index_model.specs.declared.entry.Entry.{Entry}
use Rattle.query_engine.proofs.OrderLaws.{flat_push}
use Rattle.building_tests.proofs.tables.merged.Goals as goal

pub loop-step-preserved : goal.loop-step-preserved
loop-step-preserved g c =
    let run = c.in_ok-run.field-0 in
    let more = ap (flat_map (λ (r : List Entry). r)) c.in_ok-push.ensures.items ∙ flat_push (λ (r : List Entry). r) c.loop-step.runs.items run in
    record {
      tails = rw more (All-append (λ (e : Entry). e.tail ≤ length e.name) (flat_map (λ (r : List Entry). r) c.loop-step.runs.items) run c.loop-step.invariant.tails c.in_ok-run.ensures.0);
      len = omega (arith, ap length more, length-append (flat_map (λ (r : List Entry). r) c.loop-step.runs.items) run, c.loop-step.invariant.len, c.in_ok-run.ensures.1);
    }
