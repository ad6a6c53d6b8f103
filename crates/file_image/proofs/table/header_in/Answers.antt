use Rattle.std.proofs.Common.{◌≡◌, ◌+◌, ◌*◌, ◌-◌, arith}
use Rattle.file_image.proofs.Tables.{header_is}
use Rattle.file_image.proofs.table.header_in.Goals as goal

pub returns-clause-own : goal.returns-clause-own
returns-clause-own c =
    let own : 64 * c.args.index + 64 - 64 * c.args.index ≡ 64 = omega (arith) in
    rw (c.read.ensures, own) (header_is _)
