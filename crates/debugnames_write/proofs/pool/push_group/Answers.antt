use Rattle.std.proofs.Common.{ℕ, ◌++◌, ap, ◌∙◌}
use Rattle.common_laws.proofs.Appended.{three_parts, no_part, more_parts}
use Rattle.index_model.specs.NameIndex.{uleb_bytes}
use Rattle.debugnames_write.proofs.PoolLaws.{item_bytes, group_pushed}
use Rattle.debugnames_write.proofs.pool.push_group.Goals as goal

pub loop-item-init : goal.loop-item-init
loop-item-init c = no_part (item_bytes c.args.abbreviations.now) c.args.items.now c.args.out.now.items

pub loop-item-preserved : goal.loop-item-preserved
loop-item-preserved c =
    let out = c.loop-item.out.items in
    let code = c.in_ok-push_uleb.ensures ∙ ap (λ (n : ℕ). out ++ uleb_bytes n) c.code.ensures in
    let unit = c.in_ok-push_uleb-2.ensures ∙ ap (λ (n : ℕ). c.push_uleb.new.out.items ++ uleb_bytes n) c.from.ensures in
    more_parts (item_bytes c.args.abbreviations.now) c.args.items.now c.loop-item.item-index _ c.args.out.now.items c.loop-item-test.true c.loop-item.invariant (three_parts out _ _ _ code unit c.in_ok-push_u32.ensures)

pub returns : goal.returns
returns c = group_pushed c.args.abbreviations.now c.args.items.now c.loop-item.item-index c.args.out.now.items c.loop-item.out.items _ c.loop-item-test.false c.loop-item.invariant c.in_ok-push.ensures.items
