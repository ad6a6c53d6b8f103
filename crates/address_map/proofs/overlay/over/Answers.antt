use Rattle.std.proofs.Common.{subst, sym}
use Rattle.address_map.proofs.Laying.{IsLaid, at_first, more, whole}
use Rattle.address_map.proofs.UnitAt.{no_range}
use Rattle.address_map.proofs.overlay.over.Goals as goal

pub first-init : goal.first-init
first-init c = subst (IsLaid c.args.first.now c.args.second.now 0 0 c.args.second.now) (sym c.in_ok-pieces.ensures.items) (at_first c.args.first.now c.args.second.now c.requires.second)

pub first-preserved : goal.first-preserved
first-preserved c = more _ _ _ _ _ _ c.requires.first c.first.invariant no_range c.first-test.true _ _ _ c.in_ok-rest.ensures.filled c.in_ok-rest.ensures.left c.in_ok-add.ensures

pub returns : goal.returns
returns c = whole _ _ _ _ _ _ c.requires.first c.first.invariant _ c.first-test.false c.in_ok-follow.ensures
