use Rattle.std.proofs.Common.{arith, ap, ◌∙◌}
use Rattle.index_model.specs.ShardLanguages.{root_in}
use Rattle.index_model.proofs.FirstSome.{hit, none_ends}
use Rattle.index_model.proofs.languages.root_of.Goals as goal

pub returns-in-Some : goal.returns-in-Some
returns-in-Some c = hit (root_in c.args.unit) c.args.shards.now c.loop-shard.shard-index c.shard-item.result c.shard-item.is c.loop-shard-test.true c.root_in.result (c.root_in.ensures ∙ ap (root_in c.args.unit) c.deref.ensures) c.loop-shard.invariant c.in-Some.root c.in-Some.is

pub returns : goal.returns
returns c = none_ends (root_in c.args.unit) c.args.shards.now c.loop-shard.shard-index c.loop-shard.invariant (omega (arith, c.loop-shard-test.false, c.loop-shard.auto.shard-index-end))
