use Rattle.std.proofs.Common.{List, length, ap, arith}
use Rattle.std.proofs.lemmas.List.Folds.{length-flat_map-take}
use Rattle.index_model.specs.declared.entry.Entry.{Entry}
use Rattle.gdb_index.proofs.few.are_few.Goals as goal

pub returns-then-count-left-clause-many : goal.returns-then-count-left-clause-many
returns-then-count-left-clause-many c off =
    let run = c.run-item.result in
    let within = length-flat_map-take (λ (r : List Entry). r) c.args.runs.now c.loop-run.run-index run c.loop-run-test.true in
    let item = ap (λ (r : List Entry). length r) c.run-item.is in
    let count = ap (λ (r : List Entry). length r) c.as_slice.ensures in
    omega (arith, within, item, count, c.loop-run.invariant.taken, c.if-count-left.true)
