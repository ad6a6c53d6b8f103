-- The ranges of a unit, and the unit at an address (DWARF 5, 2.17; 3.1.1 for the base of a list).
use Rattle.std.specs.Prelude.{ℕ, ◌+◌, ◌-◌, Bool, not, ◌&&◌, ◌||◌, nat_lt, nat_le, ◌==◌, if◌then◌else◌, List, [], ◌∷◌, filter, map, find, Option, Some, None, option_map, option_and_then, is_some, Result, Ok, flat_map}
use Rattle.ix_base.specs.declared.fault.Fault.{Fault}
use Rattle.index_model.specs.declared.range.Range.{Range}
use Rattle.index_model.specs.declared.range.UnitRange.{UnitRange}
use Rattle.index_model.specs.Meaning.{◌>>=◌, each, at_place}
use Rattle.index_model.specs.Sections.{Section}
use Rattle.index_model.specs.Forms.{Value}
use Rattle.index_model.specs.Attributes.{High, EndsAt, Bytes, low_pc, high_pc, ranges_value}
use Rattle.index_model.specs.Walk.{Item}
use Rattle.index_model.specs.Program.{Walked, Program, root_of}
use Rattle.index_model.specs.Tags.{subprogram}
use Rattle.index_model.specs.Links.{Link, indexed_in}
use Rattle.index_model.specs.RangeLists.{address_of, list_of, top}

-- the range from a low end to a high end
unfoldable pub bounds : List Section → Walked → ℕ → High → Result (List Range) ℕ
bounds ss w low (EndsAt v) = address_of ss w v >>= λ end. Ok (record { low = low; end = end } ∷ [])
bounds ss w low (Bytes n) = Ok (record { low = low; end = low + n } ∷ [])

-- the first base of a list: the root's low_pc, or 0
abbrev pub first_base : List Section → Walked → Option Value → Result ℕ ℕ
first_base ss w (Some low) = address_of ss w low
first_base ss w None = Ok 0

-- by its ranges, or else by its low_pc and high_pc; the low end is read before the high end, and the base before the list
unfoldable pub ranges_by : List Section → Walked → Option Value → Option Value → Option High → Result (List Range) ℕ
ranges_by ss w (Some list) low high = first_base ss w (option_and_then low_pc (root_of w)) >>= λ base. list_of ss w base list
ranges_by ss w None (Some low) (Some high) = address_of ss w low >>= λ a. bounds ss w a high
ranges_by ss w None (Some low) None = Ok []
ranges_by ss w None None high = Ok []

-- a range is dropped if it begins at 0, begins or ends too high, or has no byte
abbrev pub is_kept : Range → Bool
is_kept r = not (r.low == 0) && nat_lt r.low (top - 1) && nat_lt r.low r.end && nat_le r.end top

-- the ranges of an entry of the unit, or a fault at the entry
unfoldable pub entry_ranges : List Section → Walked → Item → Result (List Range) Fault
entry_ranges ss w d = at_place d.at (ranges_by ss w (ranges_value w.unit.version d) (low_pc d) (high_pc d) >>= λ rs. Ok (filter is_kept rs))

-- whether the entry has ranges, or low_pc and high_pc
abbrev pub has_ranges : ℕ → Item → Bool
has_ranges version d = is_some (ranges_value version d) || (is_some (low_pc d) && is_some (high_pc d))

-- the indexed subprograms of the unit
abbrev pub subprograms_in : List Link → Walked → List Item
subprograms_in ks w = map (λ k. k.entry.item) (filter (λ k. k.entry.home.number == w.number && k.entry.item.tag == subprogram) (indexed_in ks))

-- the root, if it has ranges; else the indexed subprograms
unfoldable pub entries_with_ranges : List Link → Walked → Option Item → List Item
entries_with_ranges ks w None = []
entries_with_ranges ks w (Some root) = if has_ranges w.unit.version root then root ∷ [] else subprograms_in ks w

-- the ranges of the unit, or its first fault
unfoldable pub ranges_of : Program → List Link → Walked → Result (List Range) Fault
ranges_of p ks w = each (entry_ranges p.sections w) (entries_with_ranges ks w (root_of w)) >>= λ rs. Ok (flat_map (λ r. r) rs)

-- the ranges of the unit, each with the unit's number
unfoldable pub unit_ranges : Program → List Link → Walked → Result (List UnitRange) Fault
unit_ranges p ks w = ranges_of p ks w >>= λ rs. Ok (map (λ r. record { unit = w.number; range = r }) rs)

-- the ranges of these units, in section order, or the first fault
unfoldable pub ranges_in : Program → List Link → List Walked → Result (List UnitRange) Fault
ranges_in p ks ws = each (unit_ranges p ks) ws >>= λ rs. Ok (flat_map (λ r. r) rs)

-- a range doesn't contain its end
abbrev pub contains : ℕ → Range → Bool
contains a r = nat_le r.low a && nat_lt a r.end

-- the first unit in section order with a range that contains the address, among the ranges of all units in section order
unfoldable pub unit_at : List UnitRange → ℕ → Option ℕ
unit_at us a = option_map (λ u. u.unit) (find (λ u. contains a u.range) us)
