-- Pieces that wait before they are written to a sink.
use Rattle.std.specs.Prelude.{◌≡◌, ◌⊎◌, ℕ, ◌+◌, ◌≤◌, List, [], ◌++◌, length, Option}
use Rattle.outside.specs.Written.{Appends}

-- how many bytes wait at most
abbrev pub room : ℕ
room = 4096

-- The text goes behind what waited: what was written, and then what waits now, is both together.
pub record Sends (told_old : Option (List ℕ)) (waited : List ℕ) (told_new : Option (List ℕ)) (waits text : List ℕ) : Type 0 where
  pub sent : List ℕ
  pub appended : Appends told_old told_new sent
  pub whole : sent ++ waits ≡ waited ++ text

-- so many bytes more can wait, or none waits
abbrev pub HasRoom : ℕ → List ℕ → Type 0
HasRoom count waits = (length waits + count ≤ room) ⊎ (waits ≡ [])
