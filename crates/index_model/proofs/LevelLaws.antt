-- What the level of a state says of its closed kinds.
use Rattle.std.proofs.Common.{◌≡◌, ℕ, ◌<◌, ◌≤◌, List, [], ◌∷◌, length, Option, None, arith, ap}
use Rattle.std.specs.Prelude.{slice_get}
use Rattle.std.proofs.lemmas.Option.{slice_get_past}
use Rattle.ix_base.specs.Reading.{◌>>=◌ as ◌>>=?◌}
use Rattle.index_model.specs.Machine.{JobPlace, State, Output, End, plan_for, level, made_by}

module _ {Made : Type 0} (runs : ℕ) (drawn : ℕ) (brought : List (Option (Output Made))) (end : End) where
  abbrev state_with : List (List Made) → State Made
  state_with closed = record { closed = closed; drawn = drawn; brought = brought; end = end }

  abbrev level_with : List (List Made) → ℕ
  level_with closed = level (plan_for runs) (state_with closed)

  pub closed_at_1 : (closed : List (List Made)) → 1 ≤ level_with closed → 2 < length closed
  closed_at_1 [] low = absurd (omega (arith, low))
  closed_at_1 (a ∷ []) low = absurd (omega (arith, low))
  closed_at_1 (a ∷ b ∷ []) low = absurd (omega (arith, low))
  closed_at_1 (a ∷ b ∷ c ∷ rest) low = omega arith

  pub closed_at_2 : (closed : List (List Made)) → 2 ≤ level_with closed → 4 < length closed
  closed_at_2 [] low = absurd (omega (arith, low))
  closed_at_2 (a ∷ []) low = absurd (omega (arith, low))
  closed_at_2 (a ∷ b ∷ []) low = absurd (omega (arith, low))
  closed_at_2 (a ∷ b ∷ c ∷ []) low = absurd (omega (arith, low))
  closed_at_2 (a ∷ b ∷ c ∷ d ∷ []) low = absurd (omega (arith, low))
  closed_at_2 (a ∷ b ∷ c ∷ d ∷ e ∷ rest) low = omega arith

  pub closed_at_3 : (closed : List (List Made)) → 3 ≤ level_with closed → 5 < length closed
  closed_at_3 [] low = absurd (omega (arith, low))
  closed_at_3 (a ∷ []) low = absurd (omega (arith, low))
  closed_at_3 (a ∷ b ∷ []) low = absurd (omega (arith, low))
  closed_at_3 (a ∷ b ∷ c ∷ []) low = absurd (omega (arith, low))
  closed_at_3 (a ∷ b ∷ c ∷ d ∷ []) low = absurd (omega (arith, low))
  closed_at_3 (a ∷ b ∷ c ∷ d ∷ e ∷ []) low = absurd (omega (arith, low))
  closed_at_3 (a ∷ b ∷ c ∷ d ∷ e ∷ g ∷ rest) low = omega arith

  pub open_below_1 : (closed : List (List Made)) → level_with closed < 1 → length closed ≤ 2
  open_below_1 [] low = omega arith
  open_below_1 (a ∷ []) low = omega arith
  open_below_1 (a ∷ b ∷ []) low = omega arith
  open_below_1 (a ∷ b ∷ c ∷ []) low = absurd (omega (arith, low))
  open_below_1 (a ∷ b ∷ c ∷ d ∷ []) low = absurd (omega (arith, low))
  open_below_1 (a ∷ b ∷ c ∷ d ∷ e ∷ []) low = absurd (omega (arith, low))
  open_below_1 (a ∷ b ∷ c ∷ d ∷ e ∷ g ∷ []) low = absurd (omega (arith, low))
  open_below_1 (a ∷ b ∷ c ∷ d ∷ e ∷ g ∷ x ∷ rest) low = absurd (omega (arith, low))

  pub open_below_2 : (closed : List (List Made)) → level_with closed < 2 → length closed ≤ 4
  open_below_2 [] low = omega arith
  open_below_2 (a ∷ []) low = omega arith
  open_below_2 (a ∷ b ∷ []) low = omega arith
  open_below_2 (a ∷ b ∷ c ∷ []) low = omega arith
  open_below_2 (a ∷ b ∷ c ∷ d ∷ []) low = omega arith
  open_below_2 (a ∷ b ∷ c ∷ d ∷ e ∷ []) low = absurd (omega (arith, low))
  open_below_2 (a ∷ b ∷ c ∷ d ∷ e ∷ g ∷ []) low = absurd (omega (arith, low))
  open_below_2 (a ∷ b ∷ c ∷ d ∷ e ∷ g ∷ x ∷ rest) low = absurd (omega (arith, low))

  pub open_below_3 : (closed : List (List Made)) → level_with closed < 3 → length closed ≤ 5
  open_below_3 [] low = omega arith
  open_below_3 (a ∷ []) low = omega arith
  open_below_3 (a ∷ b ∷ []) low = omega arith
  open_below_3 (a ∷ b ∷ c ∷ []) low = omega arith
  open_below_3 (a ∷ b ∷ c ∷ d ∷ []) low = omega arith
  open_below_3 (a ∷ b ∷ c ∷ d ∷ e ∷ []) low = omega arith
  open_below_3 (a ∷ b ∷ c ∷ d ∷ e ∷ g ∷ []) low = absurd (omega (arith, low))
  open_below_3 (a ∷ b ∷ c ∷ d ∷ e ∷ g ∷ x ∷ rest) low = absurd (omega (arith, low))

  pub level_high : (closed : List (List Made)) → level_with closed ≤ 3
  level_high [] = omega arith
  level_high (a ∷ []) = omega arith
  level_high (a ∷ b ∷ []) = omega arith
  level_high (a ∷ b ∷ c ∷ []) = omega arith
  level_high (a ∷ b ∷ c ∷ d ∷ []) = omega arith
  level_high (a ∷ b ∷ c ∷ d ∷ e ∷ []) = omega arith
  level_high (a ∷ b ∷ c ∷ d ∷ e ∷ g ∷ []) = omega arith
  level_high (a ∷ b ∷ c ∷ d ∷ e ∷ g ∷ x ∷ rest) = omega arith

  -- a kind that isn't closed made nothing
  pub not_made : (closed : List (List Made)) (place : JobPlace) → length closed ≤ place.kind → made_by (state_with closed) place ≡ None
  not_made closed place past = ap (λ (o : Option (List Made)). o >>=? λ made. slice_get made place.number) (slice_get_past closed place.kind past)
