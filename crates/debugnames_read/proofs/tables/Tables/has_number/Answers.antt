use Rattle.std.proofs.Common.{arith}
use Rattle.debugnames_read.proofs.Counted.{hash_total}
use Rattle.debugnames_read.proofs.tables.Tables.has_number.Goals as goal

pub get-requires : goal.get-requires
get-requires c = omega (arith, hash_total c.args.self.now c.requires.some, c.requires.within)
