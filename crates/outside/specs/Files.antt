-- What a shelf tells of its files, and what its calls do to them.
use Rattle.std.specs.Prelude.{◌≡◌, ◌≢◌, ℕ, ◌≤◌, List, length, take, drop, Option, None, Some, ◌⊎◌}

-- what each name holds, and None for a name that isn't there
abbrev pub Files : Type 0
Files = List ℕ → Option (List ℕ)

-- both tell the same, or both tell nothing
abbrev pub SameFiles : Option Files → Option Files → Type 0
SameFiles None None = Unit {0}
SameFiles None (Some g) = ⊥
SameFiles (Some f) None = ⊥
SameFiles (Some f) (Some g) = (name : List ℕ) → g name ≡ f name

-- the first n bytes of the buffer are the file's bytes from a place on, and n is 0 only at or past
-- the file's end, or where the buffer is empty
pub record IsPiece (bytes : List ℕ) (at : ℕ) (into_old into_new : List ℕ) (n : ℕ) : Type 0 where
  pub here : n ≤ length (drop at bytes)
  pub same : take n into_new ≡ take n (drop at bytes)
  pub end : n ≡ 0 → (length bytes ≤ at) ⊎ (length into_old ≡ 0)

-- a name that isn't there has no piece
abbrev pub IsPieceOf : Option (List ℕ) → ℕ → List ℕ → List ℕ → ℕ → Type 0
IsPieceOf None at into_old into_new n = ⊥
IsPieceOf (Some bytes) at into_old into_new n = IsPiece bytes at into_old into_new n

-- where the files are told, n bytes of the name's file were read
abbrev pub ReadsPiece : Option Files → List ℕ → ℕ → List ℕ → List ℕ → ℕ → Type 0
ReadsPiece None name at into_old into_new n = Unit {0}
ReadsPiece (Some f) name at into_old into_new n = IsPieceOf (f name) at into_old into_new n

-- all names but this one hold what they held
abbrev pub OthersStay : Files → Files → List ℕ → Type 0
OthersStay f g name = (other : List ℕ) → other ≢ name → g other ≡ f other

-- where the files are told, the name holds the bytes, and all other names hold what they held
abbrev pub Stored : Option Files → Option Files → List ℕ → List ℕ → Type 0
Stored None None name bytes = Unit {0}
Stored None (Some g) name bytes = ⊥
Stored (Some f) None name bytes = ⊥
Stored (Some f) (Some g) name bytes = (g name ≡ Some bytes) × OthersStay f g name

-- what a name holds is what it held, or a prefix of the bytes
abbrev pub HeldOrPrefix : Option (List ℕ) → Option (List ℕ) → List ℕ → Type 0
HeldOrPrefix held holds bytes = (holds ≡ held) ⊎ ((k : ℕ) × (holds ≡ Some (take k bytes)))

-- where the files are told, the name holds what it held or a prefix of the bytes, and all other
-- names hold what they held
abbrev pub StoredOrPrefix : Option Files → Option Files → List ℕ → List ℕ → Type 0
StoredOrPrefix None None name bytes = Unit {0}
StoredOrPrefix None (Some g) name bytes = ⊥
StoredOrPrefix (Some f) None name bytes = ⊥
StoredOrPrefix (Some f) (Some g) name bytes = HeldOrPrefix (f name) (g name) bytes × OthersStay f g name
