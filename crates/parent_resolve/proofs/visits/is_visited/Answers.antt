use Rattle.std.proofs.Common.{sym, ◌∙◌}
use Rattle.parent_resolve.proofs.VisitLaws.{by_parent}
use Rattle.parent_resolve.proofs.visits.is_visited.Goals as goal

pub returns-else-takes_importers_class : goal.returns-else-takes_importers_class
returns-else-takes_importers_class c = by_parent c.args.shard.now c.args.node.now c.args.ada c.is_some.result (sym c.takes_importers_class.ensures ∙ c.if-takes_importers_class.false) c.is_some.ensures
