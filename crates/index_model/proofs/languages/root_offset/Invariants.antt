use Rattle.std.proofs.Common.{◌≡◌, drop, map}
use Rattle.std.specs.Prelude.{All}
use Rattle.std.specs.Arc.{arc_value}
use Rattle.index_model.specs.ShardLanguages.{first_some, node_in, NodesRise}
use Rattle.index_model.proofs.languages.root_offset.Given as goal

-- the shards before this one give nothing
abbrev pub invariant-loop-shard : goal.invariant-loop-shard
invariant-loop-shard l = All NodesRise (map arc_value l.shards) → first_some (λ s. node_in l.unit (arc_value s)) l.shards ≡ first_some (λ s. node_in l.unit (arc_value s)) (drop l.shard-index l.shards)
