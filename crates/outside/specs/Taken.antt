-- What a source tells of the bytes that are left in it, and what its calls do to them.
use Rattle.std.specs.Prelude.{◌≡◌, ℕ, List, [], ◌++◌, Option, None, Some}

-- where the bytes that are left are told, these were taken from their front
abbrev pub Takes : Option (List ℕ) → Option (List ℕ) → List ℕ → Type 0
Takes None None bytes = Unit {0}
Takes None (Some new) bytes = ⊥
Takes (Some old) None bytes = ⊥
Takes (Some old) (Some new) bytes = old ≡ bytes ++ new

-- where they are told, none is left
abbrev pub IsAtEnd : Option (List ℕ) → Type 0
IsAtEnd None = Unit {0}
IsAtEnd (Some left) = left ≡ []
