use Rattle.gdb_reach.proofs.StandLaws.{looks}
use Rattle.gdb_reach.proofs.state.Reached.look.Goals as goal

pub returns : goal.returns
returns c r passed d stands behind told =
    looks r passed d c.args.self.now stands behind c.args.depth c.args.item.now told c.parent_to.result c.parent_to.ensures c.way_in-way.result c.way_in-way.ensures _ c.is_looked_at.ensures c.token_around.ensures
