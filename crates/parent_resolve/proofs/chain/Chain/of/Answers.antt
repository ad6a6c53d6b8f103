use Rattle.parent_resolve.proofs.ChainLaws.{alone}
use Rattle.parent_resolve.proofs.chain.Chain.of.Goals as goal

pub returns : goal.returns
returns c p d is there = alone p d c.args.node.now is there
