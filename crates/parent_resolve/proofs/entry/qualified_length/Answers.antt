use Rattle.parent_resolve.proofs.Lengths.{cxx_length}
use Rattle.parent_resolve.proofs.entry.qualified_length.Goals as goal

pub returns-in-Cxx : goal.returns-in-Cxx
returns-in-Cxx c path h = cxx_length c.args.class c.args.scope path c.args.name.now c.saturating_add.result c.in-Cxx.is h c.saturating_add.ensures
