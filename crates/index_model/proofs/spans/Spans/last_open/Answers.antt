use Rattle.std.proofs.Common.{sym, ◌∙◌, arith}
use Rattle.index_model.proofs.SpanOrder.{opened, unopened}
use Rattle.index_model.proofs.spans.Spans.last_open.Goals as goal

pub returns-in-Some : goal.returns-in-Some
returns-in-Some c =
    let inv = c.loop-k.invariant in
    sym (inv.1 ∙ opened c.args.place c.args.self.now c.loop-k.k (omega (arith, c.loop-k-test.true)) inv.0 c.open_at.result c.open_at.ensures c.in-Some.span c.in-Some.is)

pub loop-k-preserved : goal.loop-k-preserved
loop-k-preserved c =
    let inv = c.loop-k.invariant in (
      omega (arith, inv.0),
      inv.1 ∙ unopened c.args.place c.args.self.now c.loop-k.k (omega (arith, c.loop-k-test.true)) inv.0 c.open_at.result c.open_at.ensures c.in_default.is,
    )
