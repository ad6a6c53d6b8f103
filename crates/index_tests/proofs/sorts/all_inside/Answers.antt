use Rattle.std.proofs.lemmas.List.{take_all}
use Rattle.std.proofs.lemmas.List.Elements.{All-more}
use Rattle.debugnames_write.specs.Conditions.{IsInside}
use Rattle.index_tests.proofs.sorts.all_inside.Goals as goal

pub loop-entry-preserved : goal.loop-entry-preserved
loop-entry-preserved c =
    let here = rw c.entry-item.is at (c.is_inside.ensures c.if-not-is_inside.false) in
    All-more (IsInside c.args.units.now) c.args.entries.now c.loop-entry.entry-index _ c.loop-entry-test.true c.loop-entry.invariant here

pub returns : goal.returns
returns c = λ _. (let whole = take_all c.loop-entry.entry-index c.args.entries.now c.loop-entry-test.false in rw whole at c.loop-entry.invariant)
