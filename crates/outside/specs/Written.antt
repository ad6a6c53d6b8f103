-- What a sink tells of the bytes that were written to it, and what its calls do to them.
use Rattle.std.specs.Prelude.{◌≡◌, ℕ, List, take, ◌++◌, Option, None, Some}

-- where the bytes are told, these were appended
abbrev pub Appends : Option (List ℕ) → Option (List ℕ) → List ℕ → Type 0
Appends None None bytes = Unit {0}
Appends None (Some new) bytes = ⊥
Appends (Some old) None bytes = ⊥
Appends (Some old) (Some new) bytes = new ≡ old ++ bytes

-- a prefix of these was appended
abbrev pub AppendsPrefix : Option (List ℕ) → Option (List ℕ) → List ℕ → Type 0
AppendsPrefix old new bytes = (k : ℕ) × Appends old new (take k bytes)
