use Rattle.std.proofs.Common.{◌≡◌, Some, None, sym, ap, ◌∙◌, arith}
use Rattle.std.specs.Option.{option_map}
use Rattle.index_model.specs.declared.shard.Node.{Node}
use Rattle.index_model.specs.NodeSeen.{node_seen}
use Rattle.parent_resolve.proofs.PlaceLaws.{found_there, none_before, none_past, none_other}
use Rattle.parent_resolve.proofs.visits.node_at.Goals as goal

pub returns-then-before-place-clause-none : goal.returns-then-before-place-clause-none
returns-then-before-place-clause-none c none rise = none_before c.args.nodes.now c.args.before c.args.offset c.count_before-place.result (c.count_before-place.ensures.parted rise) c.if-before-place.true

pub returns-in_err-node-clause-none : goal.returns-in_err-node-clause-none
returns-in_err-node-clause-none c none rise =
    let was : c.get.result ≡ None = c.in_err-node.was in
    none_past c.args.nodes.now c.args.before c.args.offset c.count_before-place.result (c.count_before-place.ensures.parted rise) (sym c.get.ensures ∙ ap (option_map node_seen) was)

pub returns-then-node-offset-clause-found : goal.returns-then-node-offset-clause-found
returns-then-node-offset-clause-found c =
    let node : Node = c.in_ok-node.node in
    let was : c.get.result ≡ Some node = c.in_ok-node.was in
    found_there c.args.nodes.now c.args.before c.args.offset c.count_before-place.result (node_seen node) (sym c.get.ensures ∙ ap (option_map node_seen) was) (omega (arith, c.if-before-place.false)) c.if-node-offset.true

pub returns-else-node-offset-clause-none : goal.returns-else-node-offset-clause-none
returns-else-node-offset-clause-none c none rise =
    let node : Node = c.in_ok-node.node in
    let was : c.get.result ≡ Some node = c.in_ok-node.was in
    none_other c.args.nodes.now c.args.before c.args.offset c.count_before-place.result (c.count_before-place.ensures.parted rise) rise (node_seen node) (sym c.get.ensures ∙ ap (option_map node_seen) was) c.if-node-offset.false
