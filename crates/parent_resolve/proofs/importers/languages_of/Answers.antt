use Rattle.std.proofs.Common.{ap, arith}
use Rattle.std.specs.Arc.{arc_value}
use Rattle.std.specs.Map.{lookup}
use Rattle.std.specs.Prelude.{nat_eq}
use Rattle.index_model.specs.ShardLanguages.{importing_in}
use Rattle.parent_resolve.proofs.ImporterLaws.{all_gathered, none_less}
use Rattle.parent_resolve.proofs.importers.languages_of.Goals as goal

pub returns : goal.returns
returns c =
    let shards = c.args.shards.now in
    let m = c.new-languages.result in
    let added = none_less (λ o s. importing_in o (arc_value s)) m shards c.loop-shard.languages c.loop-shard.shard-index (omega (arith, c.loop-shard-test.false, c.loop-shard.auto.shard-index-end)) c.loop-shard.invariant in
    all_gathered shards m c.loop-shard.languages (λ o. ap (lookup (nat_eq o)) c.new-languages.ensures.empty) added
