use Rattle.std.proofs.Common.{◌≡◌, ◌||◌, rules}
use Rattle.parent_resolve.proofs.ChainLaws.{one_more}
use Rattle.parent_resolve.proofs.chain.Chain.with.Goals as goal

pub returns : goal.returns
returns c p d e chain h is there =
    let old = c.args.self.now in
    let n = c.args.node.now in
    let x : c.if-self.result ≡ (old.external || n.external) = search rules in
    let made = one_more p d old chain n e h is there in
    rw (x, c.or.ensures, c.or-2.ensures) made
