-- The first difference among some addresses.
use Rattle.std.specs.Prelude.{◌≡◌, ◌≢◌, ◌<◌, ℕ, nat_le, Bool, false, List, Contains, Option, Some, None}
use Rattle.index_model.specs.declared.range.UnitRange.{UnitRange}
use Rattle.index_model.specs.Ranges.{unit_at}
use Rattle.reach_model.specs.declared.difference.Difference.{Difference}

-- what both lists have at the address, which differs
pub record IsDifference (table own : List UnitRange) (d : Difference) : Type 0 where
  pub of_table : unit_at table d.address ≡ d.table
  pub of_own : unit_at own d.address ≡ d.own
  pub differ : d.table ≢ d.own

-- both lists have the same unit at those of the addresses that lie below
abbrev pub AgreeBelow : List UnitRange → List UnitRange → List ℕ → ℕ → Type 0
AgreeBelow table own addresses below = (a : ℕ) → Contains addresses a → a < below → unit_at table a ≡ unit_at own a

-- the difference at the least of the addresses at which there is one; none, where there is none
abbrev pub IsFirstAmong : List UnitRange → List UnitRange → List ℕ → Option Difference → Type 0
IsFirstAmong table own addresses None = (a : ℕ) → Contains addresses a → unit_at table a ≡ unit_at own a
IsFirstAmong table own addresses (Some d) = IsDifference table own d × AgreeBelow table own addresses d.address

-- the difference at an address, if there is one
abbrev pub IsDifferenceAt : List UnitRange → List UnitRange → ℕ → Option Difference → Type 0
IsDifferenceAt table own a None = unit_at table a ≡ unit_at own a
IsDifferenceAt table own a (Some d) = IsDifference table own d × (d.address ≡ a)

-- whether an address is that of the difference or lies behind it
abbrev pub is_passed : Option Difference → ℕ → Bool
is_passed None a = false
is_passed (Some d) a = nat_le d.address a
