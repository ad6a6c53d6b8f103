use Rattle.std.proofs.Common.{Some, None, sym, ap, subst, ◌∙◌}
use Rattle.std.specs.Option.{option_map}
use Rattle.index_model.specs.NodeSeen.{node_seen}
use Rattle.index_model.specs.Program.{item_with_offset}
use Rattle.shard_build.specs.Found.{IsUnitAt}
use Rattle.shard_build.proofs.UnitNodes.{unit_rises, node_in_unit, home_is, nothing_in}
use Rattle.shard_build.proofs.units_again.UnitsAgain.find.Goals as goal

pub returns-in-Some : goal.returns-in-Some
returns-in-Some c p is =
    let f = c.args.image.now.file in
    let o = c.args.offset in
    let unit = c.in_ok-unit.unit in
    let nodes = c.in_ok-nodes.nodes.now in
    let at = subst (IsUnitAt f o) c.in_ok-unit.was c.unit_at.ensures in
    let u = c.requires unit nodes (sym c.in_ok-nodes.ensures.value) p is in
    let found = ap (option_map node_seen) (sym c.in-Some.is) ∙ c.node_at.ensures (unit_rises f p is u.home u.member nodes u.are) in
    node_in_unit f p is u.home u.member nodes u.are o (home_is f p is o unit at u.home u.member u.number) (Some c.in-Some.node) found

pub returns-in-None : goal.returns-in-None
returns-in-None c p is =
    let f = c.args.image.now.file in
    let o = c.args.offset in
    let unit = c.in_ok-unit.unit in
    let nodes = c.in_ok-nodes.nodes.now in
    let at = subst (IsUnitAt f o) c.in_ok-unit.was c.unit_at.ensures in
    let u = c.requires unit nodes (sym c.in_ok-nodes.ensures.value) p is in
    let found = ap (option_map node_seen) (sym c.in-None.is) ∙ c.node_at.ensures (unit_rises f p is u.home u.member nodes u.are) in
    nothing_in p.sections (item_with_offset p o) (node_in_unit f p is u.home u.member nodes u.are o (home_is f p is o unit at u.home u.member u.number) None found)
