use Rattle.std.proofs.Common.{◌+◌, ℕ, length, ap, ◌∙◌}
use Rattle.index_model.specs.NameIndex.{uleb_bytes}
use Rattle.debugnames_write.proofs.PoolLaws.{group_more, group_whole}
use Rattle.debugnames_write.proofs.pool.group_size.Goals as goal

pub loop-item-preserved : goal.loop-item-preserved
loop-item-preserved c =
    let code = c.code_size-code.ensures.size in
    let unit = c.uleb_size.ensures.size ∙ ap (λ (n : ℕ). length (uleb_bytes n)) c.from.ensures in
    group_more c.args.abbreviations.now c.args.items.now c.loop-item.item-index _ c.loop-item.size _ _ c.loop-item-test.true c.loop-item.invariant (λ i. code i + unit i + 4) c.saturating_add-size.ensures

pub returns : goal.returns
returns c = group_whole c.args.abbreviations.now c.args.items.now c.loop-item.item-index c.loop-item.size c.loop-item-test.false c.loop-item.invariant
