-- The places of units in their lists (DWARF 5, 6.1.1.4.2 and 6.1.1.4.3).
use Rattle.std.specs.Prelude.{◌≡◌, ℕ, Bool, true, false, not, ◌&&◌, if◌then◌else◌, List, length, map, take, slice_get, option_map, unwrap_or}
use Rattle.index_model.specs.declared.unit.Unit.{Unit as UnitHeader}
use Rattle.index_model.specs.Units.{is_types}
use Rattle.index_model.specs.GdbIndex.{is_type_unit}
use Rattle.index_model.specs.Layout.{below}
use Rattle.index_model.specs.NameIndex.{units_of_sort}
use Rattle.debugnames_write.specs.declared.units.UnitPlaces.{UnitPlaces}

-- whether the unit stands in the list of the type units, or in that of all others
abbrev pub is_listed : Bool → UnitHeader → Bool
is_listed types u = not (is_types u.part) && (if types then is_type_unit u else not (is_type_unit u))

-- whether the unit with this number is a type unit
abbrev pub is_type_at : List UnitHeader → ℕ → Bool
is_type_at units k = unwrap_or (option_map is_type_unit (slice_get units k)) false

-- how many units before the one with this number stand in the list of its sort
abbrev pub place_at : List UnitHeader → ℕ → ℕ
place_at units k = length (units_of_sort (is_type_at units k) (take k units))

-- the places of all units, and the lengths of both lists
pub record ArePlacesOf (units : List UnitHeader) (p : UnitPlaces) : Type 0 where
  pub places : p.places.items ≡ map (place_at units) (below (length units))
  pub compile : p.compile_units ≡ length (units_of_sort false units)
  pub types : p.type_units ≡ length (units_of_sort true units)
