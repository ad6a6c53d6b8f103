use Rattle.std.proofs.Common.{List, length, ap, arith}
use Rattle.std.proofs.lemmas.List.Folds.{length-flat_map-take}
use Rattle.index_model.specs.declared.entry.Entry.{Entry}
use Rattle.query_engine.proofs.table.total_len.Goals as goal

pub overflow_add-total : goal.overflow_add-total
overflow_add-total c =
    let run = c.run-item.result in
    let within = length-flat_map-take (λ (r : List Entry). r) c.args.runs.now c.loop-run.run-index run c.loop-run-test.true in
    let sized = ap (λ (r : List Entry). length r) c.run-item.is in
    rw c.as_slice.ensures (omega (arith, within, sized, c.loop-run.invariant, c.requires))
