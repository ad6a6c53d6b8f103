use Rattle.std.proofs.Common.{◌∙◌}
use Rattle.debugnames_write.proofs.Stops.{stopped}
use Rattle.debugnames_write.proofs.pool.pool_places.Goals as goal

pub returns-in_err-size : goal.returns-in_err-size
returns-in_err-size g c =
    stopped c.from_residual-in_err-size.result c.in_err-size.field-0.0 _ c.from_residual-in_err-size.ensures.1
    (c.in_err-size.ensures c.args.abbreviations.now c.args.names.now (c.deref.ensures.value ∙ c.in_ok-sizes.ensures)) (λ pass. pass)
