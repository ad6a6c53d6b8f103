-- The law of the first difference, as a statement.
use Rattle.std.specs.Prelude.{◌≡◌, ◌≢◌, ◌<◌, ℕ, List, Option, Some, None}
use Rattle.index_model.specs.declared.range.UnitRange.{UnitRange}
use Rattle.index_model.specs.Ranges.{unit_at}
use Rattle.reach_model.specs.declared.difference.Difference.{Difference}
use Rattle.reach_model.specs.AddressSets.{AddressSet, aranges_unit_at}
use Rattle.reach_model.specs.Differences.{first_difference}

-- two tell these units at the address, which differ, and at each lesser address one unit or none
pub record DifferFirst (table own : ℕ → Option ℕ) (d : Difference) : Type 0 where
  pub of_table : table d.address ≡ d.table
  pub of_own : own d.address ≡ d.own
  pub differ : d.table ≢ d.own
  pub before : (a : ℕ) → a < d.address → table a ≡ own a

-- the least address at which two tell different units; none, where they agree at each address
abbrev pub IsFirst : (ℕ → Option ℕ) → (ℕ → Option ℕ) → Option Difference → Type 0
IsFirst table own None = (a : ℕ) → table a ≡ own a
IsFirst table own (Some d) = DifferFirst table own d

-- the first difference is the least address with two answers, whatever the sets and the ranges are
abbrev pub FirstDifferenceIsFirst : Type 0
FirstDifferenceIsFirst = (sets : List AddressSet) (own : List UnitRange) → IsFirst (aranges_unit_at sets) (unit_at own) (first_difference sets own)
