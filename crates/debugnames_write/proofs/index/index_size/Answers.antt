use Rattle.std.proofs.Common.{arith}
use Rattle.debugnames_write.proofs.Stops.{stopped}
use Rattle.debugnames_write.proofs.index.index_size.Goals as goal

pub returns-in_err-behind_table : goal.returns-in_err-behind_table
returns-in_err-behind_table c = stopped c.from_residual.result c.in_err-behind_table.field-0.0 _ c.from_residual.ensures.1 c.in_err-behind_table.ensures (λ pass. omega (arith, pass))
