-- Ranges that show the same units.
use Rattle.std.specs.Prelude.{◌≡◌, ℕ, List, ◌++◌, map}
use Rattle.index_model.specs.declared.range.Range.{Range}
use Rattle.index_model.specs.declared.range.UnitRange.{UnitRange}
use Rattle.index_model.specs.Ranges.{unit_at}

-- the range as one of the unit
abbrev pub with_unit : ℕ → Range → UnitRange
with_unit unit r = record { unit = unit; range = r }

-- the ranges as those of the unit
abbrev pub of_unit : ℕ → List Range → List UnitRange
of_unit unit rs = map (with_unit unit) rs

-- each address has the same unit in both
abbrev pub HaveSameUnits : List UnitRange → List UnitRange → Type 0
HaveSameUnits us vs = (a : ℕ) → unit_at us a ≡ unit_at vs a

-- the others already have a unit at each address of these ranges, so behind them they show nothing, whichever unit has them
abbrev pub AddNothing : List UnitRange → List Range → Type 0
AddNothing us rs = (unit : ℕ) → HaveSameUnits (us ++ of_unit unit rs) us
