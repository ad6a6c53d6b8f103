use Rattle.std.proofs.Common.{Bool, MatchBool, sym, subst, arith}
use Rattle.query_engine.specs.Listed.{HasSimple}
use Rattle.query_engine.proofs.ListedLaws.{has_it}
use Rattle.query_engine.proofs.listed.BothOrders.has_simple.Goals as goal

pub returns-then-index-len : goal.returns-then-index-len
returns-then-index-len c =
    let here = HasSimple c.args.self.now.entries.now c.args.self.now.simple.now c.args.index c.args.text.now.bytes.now in
    subst (λ (b : Bool). MatchBool b here (here → ⊥)) (sym c.eq.ensures)
    (has_it c.args.self.now.entries.now c.args.self.now.simple.now c.args.index c.args.text.now.bytes.now c.order_at.result (omega (arith, c.if-index-len.true, c.len.ensures)) c.order_at.ensures)
