use Rattle.std.proofs.Common.{◌∙◌, sym, ap, subst, List, Option, Ok, arith}
use Rattle.std.specs.Prelude.{find, ◌==◌}
use Rattle.index_model.specs.Walk.{Item, items}
use Rattle.entry_scan.specs.declared.item.Item.{Item as ReadItem}
use Rattle.entry_scan.specs.Ahead.{GivesItem, FollowsItem}
use Rattle.entry_scan.proofs.OrderAhead.{none_here}
use Rattle.entry_scan.proofs.inside.walk_to.Goals as goal

pub returns-then-after-offset : goal.returns-then-after-offset
returns-then-after-offset c =
    let d = c.in-Ok-Some in
    let given = subst (λ (o : Option ReadItem). GivesItem c.loop-item.walk c.next.new.self (Ok o)) d.field-0-is d.ensures.value in
    let order = subst (λ (o : Option ReadItem). FollowsItem c.next.new.self (Ok o)) d.field-0-is d.ensures.order in
    let other = none_here c.args.offset d.item (items c.next.new.self) (λ same. c.if-offset.false (omega (arith, c.offset.ensures.value, same))) order (omega (arith, c.if-after-offset.true, c.after.ensures.value)) in
    sym (c.loop-item.invariant ∙ ap (λ (ds : List Item). find (λ (x : Item). x.at == c.args.offset) ds) given.items ∙ other)
