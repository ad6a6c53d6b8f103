-- The pieces of an Ada name, still to come and joined.
use Rattle.std.specs.Prelude.{◌≡◌, ◌<◌, ℕ, ◌+◌, List, [], length, slice_index, codes, Option, Some, None}
use Rattle.std.specs.Borrow.{Bor}
use Rattle.std.specs.List.{join_by}
use Rattle.index_model.specs.AdaNames.{pieces}

-- the pieces of the bytes that are left; none where nothing is left
abbrev pub left : Option (Bor (List ℕ)) → List (List ℕ)
left None = []
left (Some bytes) = pieces bytes.now

-- the pieces joined by points
abbrev pub pointed : List (List ℕ) → List ℕ
pointed ps = join_by (λ piece. piece) (codes ".") ps

-- a `__` stands at a place
pub record IsCut (name : List ℕ) (k : ℕ) : Type 0 where
  pub within : k + 1 < length name
  pub first : slice_index name k ≡ 95
  pub second : slice_index name (k + 1) ≡ 95

-- none stands before a place
abbrev pub HasNoCutBefore : List ℕ → ℕ → Type 0
HasNoCutBefore name n = (k : ℕ) → k < n → ¬ IsCut name k

-- none stands anywhere
abbrev pub HasNoCut : List ℕ → Type 0
HasNoCut name = HasNoCutBefore name (length name)

-- the first stands at a place
abbrev pub IsFirstCut : List ℕ → ℕ → Type 0
IsFirstCut name k = IsCut name k × HasNoCutBefore name k
