-- The strings of names.
use Rattle.std.specs.Prelude.{◌≡◌, ◌<◌, ◌≤◌, ◌-◌, ℕ, slice_index, nat_le, if◌then◌else◌, List, length, drop, Option, None}
use Rattle.ix_base.specs.Reading.{before_zero}

-- the string at an offset, if it has an end
abbrev pub text_in : List ℕ → ℕ → Option (List ℕ)
text_in strings offset = if nat_le offset (length strings) then before_zero (drop offset strings) else None

-- the last zero stands before a place, and none behind it
pub record IsLastEnd (strings : List ℕ) (end : ℕ) : Type 0 where
  pub within : end ≤ length strings
  pub zero : 0 < end → slice_index strings (end - 1) ≡ 0
  pub none : (k : ℕ) → end ≤ k → k < length strings → ¬ (slice_index strings k ≡ 0)
