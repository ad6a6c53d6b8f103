use Rattle.std.proofs.Common.{subst, sym, ◌∙◌}
use Rattle.std.specs.Option.{option_map}
use Rattle.index_model.specs.Parents.{IsParentAt}
use Rattle.index_model.proofs.SpanOrder.{entry, parent_right}
use Rattle.index_model.proofs.shard.Shard.parent_at.Goals as goal

pub returns-in-Some : goal.returns-in-Some
returns-in-Some c =
    let s = c.args.self.now in
    subst (λ o. IsParentAt s c.args.offset (option_map entry o)) (sym c.last_open.ensures ∙ c.in-Some.is) (parent_right s c.args.offset c.count_begun-begun.result c.count_begun-begun.ensures.within c.count_begun-begun.ensures.parted)

pub returns-in-None : goal.returns-in-None
returns-in-None c =
    let s = c.args.self.now in
    subst (λ o. IsParentAt s c.args.offset (option_map entry o)) (sym c.last_open.ensures ∙ c.in-None.is) (parent_right s c.args.offset c.count_begun-begun.result c.count_begun-begun.ensures.within c.count_begun-begun.ensures.parted)
