use Rattle.std.proofs.Common.{◌≡◌, Option, Some, None, cond, sym, ap, ◌∙◌, arith}
use Rattle.std.specs.Option.{option_map}
use Rattle.std.proofs.lemmas.Bool.{eq-eqb, ne_eqb}
use Rattle.index_model.specs.declared.shard.Node.{Node}
use Rattle.index_model.specs.NodeSeen.{NodeSeen, node_seen}
use Rattle.shard_build.proofs.FoundPoints.{checked, node_at_point}
use Rattle.shard_build.proofs.found.node_at.Goals as goal

pub returns-in_err-node : goal.returns-in_err-node
returns-in_err-node c rise =
    let nodes = c.args.nodes.now in
    let o = c.args.offset in
    let n = c.count_before-place.result in
    let point = c.count_before-place.ensures.parted rise in
    let found = node_at_point o nodes n rise (λ k d lt. point.0 k d (omega arith) lt) (λ k d le lt. point.1 k d le lt) in
    let was : c.get.result ≡ None = c.in_err-node.was in
    ap (option_map node_seen) c.from_residual.ensures ∙ sym (found ∙ ap (checked o) (sym c.get.ensures ∙ ap (option_map node_seen) was))

pub returns-then-node-offset : goal.returns-then-node-offset
returns-then-node-offset c rise =
    let nodes = c.args.nodes.now in
    let o = c.args.offset in
    let n = c.count_before-place.result in
    let point = c.count_before-place.ensures.parted rise in
    let found = node_at_point o nodes n rise (λ k d lt. point.0 k d (omega arith) lt) (λ k d le lt. point.1 k d le lt) in
    let node : Node = c.in_ok-node.node in
    let was : c.get.result ≡ Some node = c.in_ok-node.was in
    sym (found ∙ ap (checked o) (sym c.get.ensures ∙ ap (option_map node_seen) was) ∙ ap {B = Option NodeSeen} (λ b. cond b (Some (node_seen node)) None) (eq-eqb node.offset o c.if-node-offset.true))

pub returns-else-node-offset : goal.returns-else-node-offset
returns-else-node-offset c rise =
    let nodes = c.args.nodes.now in
    let o = c.args.offset in
    let n = c.count_before-place.result in
    let point = c.count_before-place.ensures.parted rise in
    let found = node_at_point o nodes n rise (λ k d lt. point.0 k d (omega arith) lt) (λ k d le lt. point.1 k d le lt) in
    let node : Node = c.in_ok-node.node in
    let was : c.get.result ≡ Some node = c.in_ok-node.was in
    sym (found ∙ ap (checked o) (sym c.get.ensures ∙ ap (option_map node_seen) was) ∙ ap {B = Option NodeSeen} (λ b. cond b (Some (node_seen node)) None) (ne_eqb node.offset o c.if-node-offset.false))
