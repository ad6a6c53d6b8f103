use Rattle.std.proofs.Common.{ℕ, Vec, ap}
use Rattle.std.proofs.lemmas.List.{append_assoc}
use Rattle.drill_command.proofs.totals.Totals.line.Goals as goal

pub returns : goal.returns
returns c =
    rw (c.in_ok-push.ensures.items, c.in_ok-extend_from_slice.ensures.items, ap (λ (v : Vec ℕ _). v.items) c.into_bytes-line.ensures.value, c.in_ok-sizes.ensures.ok) (simp append_assoc)
