use Rattle.std.proofs.Common.{arith}
use Rattle.debugnames_read.proofs.Counted.{entry_total}
use Rattle.debugnames_read.proofs.tables.Tables.entries_of.Goals as goal

pub get-requires : goal.get-requires
get-requires c = omega (arith, entry_total c.args.self.now, c.requires)
