use Rattle.gdbindex_read.proofs.Vectors.{unit_is}
use Rattle.gdbindex_read.proofs.elements.is_of.Goals as goal

pub returns : goal.returns
returns c = unit_is c.args.element c.args.units
