use Rattle.std.proofs.Common.{◌≡◌, drop}
use Rattle.std.specs.Arc.{arc_value}
use Rattle.index_model.specs.ShardLanguages.{first_some, importing_in}
use Rattle.index_model.proofs.languages.importing_language.Given as goal

-- the shards before this one give nothing
abbrev pub invariant-loop-shard : goal.invariant-loop-shard
invariant-loop-shard l = first_some (λ s. importing_in l.offset (arc_value s)) l.shards ≡ first_some (λ s. importing_in l.offset (arc_value s)) (drop l.shard-index l.shards)
