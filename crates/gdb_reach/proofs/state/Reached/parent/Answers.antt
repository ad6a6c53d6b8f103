use Rattle.std.proofs.Common.{◌∙◌}
use Rattle.gdb_reach.proofs.StandLaws.{parents}
use Rattle.gdb_reach.proofs.state.Reached.parent.Goals as goal

pub returns : goal.returns
returns c r passed d stands behind depth =
    c.token_in.ensures ∙ parents r passed d c.args.self.now stands behind c.args.depth depth c.parent_to.result c.parent_to.ensures
