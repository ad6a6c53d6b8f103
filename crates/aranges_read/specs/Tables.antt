-- What a map of addresses is for the sets of an address table.
use Rattle.std.specs.Prelude.{◌≡◌, ℕ, List}
use Rattle.index_model.specs.declared.range.UnitRange.{UnitRange}
use Rattle.index_model.specs.Ranges.{unit_at}
use Rattle.reach_model.specs.AddressSets.{AddressSet, aranges_unit_at}

-- the pieces have at each address the least unit among the sets that have it
abbrev pub HasTheUnitsOf : List UnitRange → List AddressSet → Type 0
HasTheUnitsOf pieces sets = (a : ℕ) → unit_at pieces a ≡ aranges_unit_at sets a
