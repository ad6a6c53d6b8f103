use Rattle.query_engine.proofs.SortLaws.{goes_on}
use Rattle.query_engine.proofs.ranks.goes_on_at.Goals as goal

pub returns-then-index-gt0 : goal.returns-then-index-gt0
returns-then-index-gt0 c = goes_on c.args.keys.now c.args.index c.index-keys-index.result c.index-keys-index-then-index-gt0.result c.if-index-gt0.true c.requires c.index-keys-index.is c.index-keys-index-then-index-gt0.is c.eq.result c.eq.ensures
