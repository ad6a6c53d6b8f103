use Rattle.debugnames_write.proofs.Stops.{stopped}
use Rattle.debugnames_write.proofs.name.names_of.Goals as goal

pub returns-in_err-strings_end : goal.returns-in_err-strings_end
returns-in_err-strings_end c = stopped c.from_residual-in_err-strings_end.result c.in_err-strings_end.field-0.0 _ c.from_residual-in_err-strings_end.ensures.1 c.in_err-strings_end.ensures (λ pass. pass)
