use Rattle.std.proofs.Common.{◌≤◌, length}
use Rattle.std.proofs.lemmas.List.{take_all}
use Rattle.std.proofs.lemmas.List.Elements.{All-more}
use Rattle.index_model.specs.declared.entry.Entry.{Entry}
use Rattle.index_tests.proofs.sorts.tails_fit.Goals as goal

pub loop-entry-preserved : goal.loop-entry-preserved
loop-entry-preserved c =
    let here = rw c.entry-item.is at (c.tail_fits.ensures c.if-not-tail_fits.false) in
    All-more (λ (e : Entry). e.tail ≤ length e.name) c.args.entries.now c.loop-entry.entry-index _ c.loop-entry-test.true c.loop-entry.invariant here

pub returns : goal.returns
returns c = λ _. (let whole = take_all c.loop-entry.entry-index c.args.entries.now c.loop-entry-test.false in rw whole at c.loop-entry.invariant)
