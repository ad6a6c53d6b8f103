use Rattle.gdb_reach.proofs.StandLaws.{opens_around, opens_as_read}
use Rattle.gdb_reach.proofs.state.Reached.open_around.Goals as goal

pub returns-clause-by_class : goal.returns-clause-by_class
returns-clause-by_class c r passed d stands behind depth =
    opens_around r passed d c.args.self.now stands behind c.args.depth depth c.parent_to.result c.parent_to.ensures _ c.innermost_in.ensures

pub returns-clause-as_read : goal.returns-clause-as_read
returns-clause-as_read c r passed d stands behind depth read =
    opens_as_read r passed d c.args.self.now stands behind c.args.depth depth c.parent_to.result c.parent_to.ensures _ c.innermost_in.ensures read
