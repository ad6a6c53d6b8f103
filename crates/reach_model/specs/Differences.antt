-- The first address at which an address table has another unit than the units' own ranges.
use Rattle.std.specs.Prelude.{◌≡◌, ◌≢◌, ◌<◌, ℕ, min, Bool, true, false, not, ◌==◌, List, [], ◌∷◌, ◌++◌, filter, flat_map, Option, Some, None, option_map}
use Rattle.std.specs.List.{reduce}
use Rattle.index_model.specs.declared.range.Range.{Range}
use Rattle.index_model.specs.declared.range.UnitRange.{UnitRange}
use Rattle.index_model.specs.Pieces.{edges_of}
use Rattle.index_model.specs.Ranges.{unit_at}
use Rattle.reach_model.specs.AddressSets.{AddressSet, aranges_unit_at}
use Rattle.reach_model.specs.declared.difference.Difference.{Difference}

-- what the table and the units' own ranges tell of the address, which differs, and of no lesser address they tell two things
pub record DifferFirst (table own : ℕ → Option ℕ) (d : Difference) : Type 0 where
  pub of_table : table d.address ≡ d.table
  pub of_own : own d.address ≡ d.own
  pub differ : d.table ≢ d.own
  pub before : (a : ℕ) → a < d.address → table a ≡ own a

-- the same of two lists of ranges
abbrev pub IsFirstDifference : List UnitRange → List UnitRange → Difference → Type 0
IsFirstDifference table own d = DifferFirst (unit_at table) (unit_at own) d

-- both tell the same of each address, or this is the first difference
abbrev pub IsComparison : (ℕ → Option ℕ) → (ℕ → Option ℕ) → Option Difference → Type 0
IsComparison table own None = (a : ℕ) → table a ≡ own a
IsComparison table own (Some d) = DifferFirst table own d

-- ---- the same, computed

-- whether two answers are one
abbrev pub is_same : Option ℕ → Option ℕ → Bool
is_same None None = true
is_same (Some u) (Some v) = u == v
is_same None (Some v) = false
is_same (Some u) None = false

-- where ranges begin and end
abbrev pub edges : List Range → List ℕ
edges rs = flat_map (λ r. r.low ∷ r.end ∷ []) rs

-- the least of these addresses at which two tell different units, with both units
unfoldable pub difference_among : (ℕ → Option ℕ) → (ℕ → Option ℕ) → List ℕ → Option Difference
difference_among table own addresses =
    option_map (λ a. record { address = a; table = table a; own = own a }) (reduce min (filter (λ a. not (is_same (table a) (own a))) addresses))

-- The least address at which the sets of a table tell another unit than the units' own ranges do, with both units. It is one at which
-- a range begins or ends.
unfoldable pub first_difference : List AddressSet → List UnitRange → Option Difference
first_difference sets own = difference_among (aranges_unit_at sets) (unit_at own) (edges (flat_map (λ s. s.ranges) sets) ++ edges_of own)
