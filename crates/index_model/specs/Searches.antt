-- Searches in lists.
use Rattle.std.specs.Prelude.{ℕ, zero, suc, Bool, false, nat_lt, nat_le, if◌then◌else◌, List, [], ◌∷◌, Option, Some, None}
use Rattle.index_model.specs.declared.shard.Span.{Span}

-- whether there is a number, and it is below the bound
abbrev pub is_below : ℕ → Option ℕ → Bool
is_below bound None = false
is_below bound (Some n) = nat_lt n bound

-- whether there is a span, and it begins at the place or before it
abbrev pub is_begun : ℕ → Option Span → Bool
is_begun place None = false
is_begun place (Some s) = nat_le s.from place

-- the span, if it ends behind the place
abbrev pub if_open : ℕ → Span → Option Span
if_open place s = if nat_lt place s.to then Some s else None

-- the span at an index ends here
abbrev pub ended_at : List Span → ℕ → ℕ → List Span
ended_at [] k after = []
ended_at (s ∷ ss) zero after = record s { to = after } ∷ ss
ended_at (s ∷ ss) (suc k) after = s ∷ ended_at ss k after
