use Rattle.std.proofs.Common.{sym}
use Rattle.gdbindex_read.proofs.Vectors.{length-seen}
use Rattle.gdbindex_read.proofs.elements.Elements.len.Goals as goal

pub returns : goal.returns
returns c = rw (← c.self.view_is) (sym (length-seen c.self.inside.bytes.now))
