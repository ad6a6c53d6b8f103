use Rattle.std.proofs.Common.{sym, ◌∙◌}
use Rattle.index_model.proofs.LookupLaws.{path_finds_all}
use Rattle.gdbindex_read.specs.Index.{index_seen}
use Rattle.gdbindex_read.proofs.index.GdbIndex.find.Goals as goal

pub returns : goal.returns
returns c = rw (← c.self.view_is) (c.find.ensures ∙ sym (path_finds_all c.self.invariant.0 (index_seen c.self.inside) c.args.name.now c.self.invariant.1))
