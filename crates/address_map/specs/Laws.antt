-- The laws of an address map, as statements.
use Rattle.std.specs.Prelude.{◌≡◌, ◌≢◌, ◌+◌, ◌<◌, ◌≤◌, ℕ, IsTrue, List, ◌∷◌, ◌++◌, length, slice_index_or, Contains, Option, Some, None}
use Rattle.index_model.specs.declared.range.UnitRange.{UnitRange}
use Rattle.index_model.specs.Ranges.{contains, unit_at}
use Rattle.index_model.specs.Pieces.{pieces}

-- ---- the order of pieces

-- Each piece has an address, and ends where a later one begins or before. Where two touch the units differ.
pub record AreInOrder (ps : List UnitRange) : Type 0 where
  pub some : (i : ℕ) (d : UnitRange) → i < length ps → (slice_index_or ps i d).range.low < (slice_index_or ps i d).range.end
  pub ascending : (i j : ℕ) (d : UnitRange) → i < j → j < length ps → (slice_index_or ps i d).range.end ≤ (slice_index_or ps j d).range.low
  pub apart : (i : ℕ) (d : UnitRange) → i + 1 < length ps → (slice_index_or ps i d).range.end ≡ (slice_index_or ps (i + 1) d).range.low → (slice_index_or ps i d).unit ≢ (slice_index_or ps (i + 1) d).unit

-- the pieces of any ranges are in order
abbrev pub PiecesAreInOrder : Type 0
PiecesAreInOrder = (ranges : List UnitRange) → AreInOrder (pieces ranges)

-- ---- the unit at an address

-- no range contains the address
abbrev pub NoneContains : List UnitRange → ℕ → Type 0
NoneContains ranges a = (r : UnitRange) → Contains ranges r → ¬ IsTrue (contains a r.range)

-- the range contains the address, and none in front of it does
pub record IsFirstRange (ranges : List UnitRange) (a : ℕ) (range : UnitRange) : Type 0 where
  pub front : List UnitRange
  pub rest : List UnitRange
  pub stands : ranges ≡ front ++ range ∷ rest
  pub contained : IsTrue (contains a range.range)
  pub none_in_front : NoneContains front a

-- the unit of the first range that contains the address, or none where none does
abbrev pub IsFirstUnit : List UnitRange → ℕ → Option ℕ → Type 0
IsFirstUnit ranges a None = NoneContains ranges a
IsFirstUnit ranges a (Some unit) = (r : UnitRange) × IsFirstRange ranges a r × (r.unit ≡ unit)

-- in the pieces of any ranges each address has the first unit in section order with a range that contains it
abbrev pub PiecesHaveTheFirstUnits : Type 0
PiecesHaveTheFirstUnits = (ranges : List UnitRange) (a : ℕ) → IsFirstUnit ranges a (unit_at (pieces ranges) a)
