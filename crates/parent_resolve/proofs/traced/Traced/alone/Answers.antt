use Rattle.std.proofs.Common.{sym, ◌∙◌}
use Rattle.parent_resolve.proofs.TracedLaws.{traced_alone}
use Rattle.parent_resolve.proofs.traced.Traced.alone.Goals as goal

pub returns : goal.returns
returns c = traced_alone c.args.node.now (sym c.needs_others.ensures ∙ c.if-needs_others.false)
