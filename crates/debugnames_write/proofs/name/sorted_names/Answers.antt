use Rattle.std.proofs.Common.{refl}
use Rattle.debugnames_write.proofs.Stops.{stopped}
use Rattle.debugnames_write.proofs.name.sorted_names.Goals as goal

pub returns-in_err-named : goal.returns-in_err-named
returns-in_err-named g c = stopped c.from_residual-in_err-named.result c.in_err-named.field-0.0 _ c.from_residual-in_err-named.ensures.1 c.in_err-named.ensures (λ pass. pass)

pub returns : goal.returns
returns g c = record {
  made = c.in_ok-named.named;
  made_are = c.in_ok-named.ensures;
  moved = c.sort_names.ensures.moved;
  in_order = c.in_ok-sort_names.ensures.sorted;
  end = refl;
}
