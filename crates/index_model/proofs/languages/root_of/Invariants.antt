use Rattle.std.proofs.Common.{◌≡◌, drop}
use Rattle.std.specs.Arc.{arc_value}
use Rattle.index_model.specs.ShardLanguages.{first_some, root_in}
use Rattle.index_model.proofs.languages.root_of.Given as goal

-- the shards before this one give nothing
abbrev pub invariant-loop-shard : goal.invariant-loop-shard
invariant-loop-shard l = first_some (λ s. root_in l.unit (arc_value s)) l.shards ≡ first_some (λ s. root_in l.unit (arc_value s)) (drop l.shard-index l.shards)
