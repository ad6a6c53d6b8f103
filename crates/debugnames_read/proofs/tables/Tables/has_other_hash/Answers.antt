use Rattle.std.proofs.Common.{arith}
use Rattle.debugnames_read.proofs.Counted.{hash_total}
use Rattle.debugnames_read.proofs.tables.Tables.has_other_hash.Goals as goal

pub get-requires : goal.get-requires
get-requires c =
    let some = rw c.in-Some.is at c.requires.some in
    omega (arith, hash_total c.args.self.now some, c.requires.within)
