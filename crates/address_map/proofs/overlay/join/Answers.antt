use Rattle.std.proofs.Common.{subst, sym}
use Rattle.address_map.proofs.Ascending.{IsJoined, at_first, next_behind, joined_next, all_joined}
use Rattle.address_map.proofs.UnitAt.{no_range}
use Rattle.address_map.proofs.overlay.join.Goals as goal

pub pass-init : goal.pass-init
pass-init c = subst (IsJoined c.args.ranges.now 0) (sym c.in_ok-pieces.ensures.items) (at_first c.args.ranges.now c.requires)

pub add-requires-clause-behind : goal.add-requires-clause-behind
add-requires-clause-behind c = next_behind _ _ no_range _ c.pass-test.true c.pass.invariant

pub pass-preserved : goal.pass-preserved
pass-preserved c = joined_next _ _ no_range _ c.pass-test.true c.pass.invariant _ c.in_ok-add.ensures

pub returns : goal.returns
returns c = all_joined _ _ _ c.pass-test.false c.pass.invariant
