use Rattle.std.proofs.Common.{◌≡◌, List, Option, ℕ, arith, ap, sym, subst, ◌∙◌}
use Rattle.std.specs.Arc.{arc_value}
use Rattle.std.specs.List.Sorted.{IsNonDecreasingBy}
use Rattle.index_model.specs.declared.shard.Shard.{Shard}
use Rattle.index_model.specs.NodeSeen.{NodeSeen}
use Rattle.index_model.specs.ShardLanguages.{first_node, node_in, NodesRise}
use Rattle.index_model.proofs.FirstSome.{hit, missed, none_ends, shared_has}
use Rattle.index_model.proofs.languages.root_offset.Goals as goal

-- what the search in one shard gives
gives : (unit : ℕ) (s : Shard) (nodes : List NodeSeen) (r : Option ℕ) → nodes ≡ s.nodes → (IsNonDecreasingBy (λ n. n.facts.unit) nodes → r ≡ first_node unit nodes) → NodesRise s → r ≡ node_in unit s
gives unit s nodes r is found rise = found (subst (λ (xs : List NodeSeen). IsNonDecreasingBy (λ n. n.facts.unit) xs) (sym is) rise) ∙ ap (first_node unit) is

pub returns-in-Some : goal.returns-in-Some
returns-in-Some c all =
    let now : c.deref.result.now.nodes ≡ (arc_value c.shard-item.result).nodes = ap (λ (s : Shard). s.nodes) c.deref.ensures in
    let rise = shared_has NodesRise c.args.shards.now c.loop-shard.shard-index c.shard-item.result c.loop-shard-test.true c.shard-item.is all in
    hit (node_in c.args.unit) c.args.shards.now c.loop-shard.shard-index c.shard-item.result c.shard-item.is c.loop-shard-test.true c.first_node.result (gives c.args.unit (arc_value c.shard-item.result) c.deref.result.now.nodes c.first_node.result now c.first_node.ensures rise) (c.loop-shard.invariant all) c.in-Some.offset c.in-Some.is

pub loop-shard-preserved : goal.loop-shard-preserved
loop-shard-preserved c all =
    let now : c.deref.result.now.nodes ≡ (arc_value c.shard-item.result).nodes = ap (λ (s : Shard). s.nodes) c.deref.ensures in
    let rise = shared_has NodesRise c.args.shards.now c.loop-shard.shard-index c.shard-item.result c.loop-shard-test.true c.shard-item.is all in
    missed (node_in c.args.unit) c.args.shards.now c.loop-shard.shard-index c.shard-item.result c.shard-item.is c.loop-shard-test.true c.first_node.result (gives c.args.unit (arc_value c.shard-item.result) c.deref.result.now.nodes c.first_node.result now c.first_node.ensures rise) (c.loop-shard.invariant all) c.in_default.is

pub returns : goal.returns
returns c all = none_ends (node_in c.args.unit) c.args.shards.now c.loop-shard.shard-index (c.loop-shard.invariant all) (omega (arith, c.loop-shard-test.false, c.loop-shard.auto.shard-index-end))
