use Rattle.std.proofs.Common.{refl}
use Rattle.gdb_reach.proofs.StandLaws.{answers, enters, passes}
use Rattle.gdb_reach.proofs.state.Reached.enter.Goals as goal

pub returns-in_ok-set_parent-clause-is_open : goal.returns-in_ok-set_parent-clause-is_open
returns-in_ok-set_parent-clause-is_open c r passed d stands behind told named =
    answers r passed d c.args.self.now stands behind c.args.depth c.args.item.now told c.parent_to-above.result c.parent_to-above.ensures c.way_in.result c.way_in.ensures c.args.has_name named _ c.is_open_by-is_open.ensures

pub returns-in_ok-set_parent-clause-ok : goal.returns-in_ok-set_parent-clause-ok
returns-in_ok-set_parent-clause-ok c r passed d stands behind told named token =
    let is = answers r passed d c.args.self.now stands behind c.args.depth c.args.item.now told c.parent_to-above.result c.parent_to-above.ensures c.way_in.result c.way_in.ensures c.args.has_name named c.is_open_by-is_open.result c.is_open_by-is_open.ensures in
    enters r passed d c.args.self.now stands behind c.args.depth c.args.item.now told c.parent_to-above.result c.parent_to-above.ensures c.is_open_by-is_open.result is c.args.token token c.if-item.true
    c.parent_in-parent.result c.parent_in-parent.ensures _ refl c.in_ok-set_parent.ensures.ok

pub returns-else-item-clause-is_open : goal.returns-else-item-clause-is_open
returns-else-item-clause-is_open c r passed d stands behind told named =
    answers r passed d c.args.self.now stands behind c.args.depth c.args.item.now told c.parent_to-above.result c.parent_to-above.ensures c.way_in.result c.way_in.ensures c.args.has_name named _ c.is_open_by-is_open.ensures

pub returns-else-item-clause-ok : goal.returns-else-item-clause-ok
returns-else-item-clause-ok c r passed d stands behind told named token = passes r passed d c.args.self.now stands behind c.args.depth c.args.item.now told c.if-item.false
