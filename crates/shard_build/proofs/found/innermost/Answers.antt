use Rattle.std.proofs.Common.{subst, sym, Option}
use Rattle.std.specs.Option.{option_map}
use Rattle.index_model.specs.declared.shard.Span.{Span}
use Rattle.index_model.specs.Parents.{IsParentAt}
use Rattle.index_model.proofs.SpanOrder.{entry, is_open, parent_right}
use Rattle.shard_build.proofs.FoundPoints.{last_member}
use Rattle.shard_build.proofs.found.innermost.Goals as goal

pub returns-clause-parent : goal.returns-clause-parent
returns-clause-parent c =
    subst (λ (r : Option Span). IsParentAt c.args.shard.now c.args.offset (option_map entry r)) (sym c.last_open.ensures)
    (parent_right c.args.shard.now c.args.offset c.count_begun-begun.result c.count_begun-begun.ensures.within c.count_begun-begun.ensures.parted)

pub returns-clause-member : goal.returns-clause-member
returns-clause-member c = last_member (is_open c.args.offset) c.args.shard.now.spans c.count_begun-begun.result c.last_open.result c.last_open.ensures
