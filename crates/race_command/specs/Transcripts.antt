-- What a transcript is seen as, and how much a race writes.
use Rattle.std.specs.Prelude.{◌≤◌, ℕ, List, length, Option}
use Rattle.outside.specs.Written.{Appends}

-- the bytes that it took, how many it takes at most, and its count of faults
pub record Held : Type 0 where
  pub bytes : List ℕ
  pub limit : ℕ
  pub faults : ℕ

-- no more than so many bytes were appended
abbrev pub AppendsAtMost : ℕ → Option (List ℕ) → Option (List ℕ) → Type 0
AppendsAtMost most old new = (text : List ℕ) × (length text ≤ most) × Appends old new text
