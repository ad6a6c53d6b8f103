use Rattle.std.proofs.Common.{◌≡◌, ◌+◌, ◌-◌, ◌<◌, List, length, get_or, Some, subst, sym, ap, ◌∙◌, arith}
use Rattle.std.specs.Option.{option_map}
use Rattle.std.specs.Prelude.{slice_get}
use Rattle.index_model.specs.declared.shard.Node.{Node}
use Rattle.index_model.specs.NodeSeen.{node_seen}
use Rattle.range_lists.proofs.Searching.{node_between, node_end, node_there}
use Rattle.range_lists.proofs.unit_nodes.UnitNodes.node.Goals as goal

pub overflow_add-self-inside : goal.overflow_add-self-inside
overflow_add-self-inside c =
    let u = c.self.inside in
    let within : c.args.index < length c.args.self.now = c.requires in
    let end = node_end u.nodes.now u.from (u.to - u.from) c.args.index (omega (arith, within, ap (λ (xs : List Node). length xs) c.self.view_is)) in
    omega (arith, end, c.self.invariant.1)

pub unreachable-requires : goal.unreachable-requires
unreachable-requires c =
    let u = c.self.inside in
    let within : c.args.index < length c.args.self.now = c.requires in
    node_there u.nodes.now u.from (u.to - u.from) c.args.index (omega (arith, within, ap (λ (xs : List Node). length xs) c.self.view_is)) (sym c.get.ensures ∙ ap (option_map node_seen) c.in-None.is)

pub returns : goal.returns
returns c =
    let u = c.self.inside in
    let node : Node = c.in-Some.node in
    let r = c.without_texts.result in
    let within : c.args.index < length c.args.self.now = c.requires in
    let there : slice_get u.nodes.now (u.from + c.args.index) ≡ Some (node_seen node) = sym c.get.ensures ∙ ap (option_map node_seen) c.in-Some.is in
    subst (λ (xs : List Node). r ≡ get_or xs c.args.index r) c.self.view_is
    (node_between u.nodes.now u.from (u.to - u.from) c.args.index r (omega (arith, within, ap (λ (xs : List Node). length xs) c.self.view_is)) (node_seen node) there c.without_texts.ensures)
