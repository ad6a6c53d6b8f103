use Rattle.range_lists.proofs.Searching.{nodes_between}
use Rattle.range_lists.proofs.unit_nodes.UnitNodes.of.Goals as goal

pub returns : goal.returns
returns c rise =
    let first = c.count_of_units_before in
    let second = c.count_of_units_before-2 in
    nodes_between c.args.unit c.args.shard.now.nodes first.result second.result first.ensures.within second.ensures.within (first.ensures.parted rise) (second.ensures.parted rise)
