use Rattle.std.proofs.Common.{sym}
use Rattle.debugnames_read.proofs.NumberTables.{length-seen}
use Rattle.debugnames_read.proofs.numbers.Numbers.len.Goals as goal

pub returns : goal.returns
returns c = rw c.size_of.ensures (sym (length-seen c.args.self.now))
