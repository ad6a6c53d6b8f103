use Rattle.std.proofs.Common.{arith, ap, ◌∙◌}
use Rattle.index_model.specs.ShardLanguages.{importing_in}
use Rattle.index_model.proofs.FirstSome.{hit, none_ends}
use Rattle.index_model.proofs.languages.importing_language.Goals as goal

pub returns-in-Some : goal.returns-in-Some
returns-in-Some c = hit (importing_in c.args.offset) c.args.shards.now c.loop-shard.shard-index c.shard-item.result c.shard-item.is c.loop-shard-test.true c.importing_in.result (c.importing_in.ensures ∙ ap (importing_in c.args.offset) c.deref.ensures) c.loop-shard.invariant c.in-Some.language c.in-Some.is

pub returns : goal.returns
returns c = none_ends (importing_in c.args.offset) c.args.shards.now c.loop-shard.shard-index c.loop-shard.invariant (omega (arith, c.loop-shard-test.false, c.loop-shard.auto.shard-index-end))
