-- The address table `.debug_aranges`, which tells the unit at an address (DWARF 5, 6.1.2 and 7.21).
use Rattle.std.specs.Prelude.{ℕ, zero, suc, ◌+◌, ◌-◌, ◌/◌, ◌%◌, Bool, not, ◌&&◌, ◌==◌, List, [], ◌∷◌, length, take, drop, map, filter, find, position, min, codes, Option, Some, option_map, Result, Ok}
use Rattle.std.specs.List.{enumerate_from, list_any, reduce}
use Rattle.ix_base.specs.declared.fault.Fault.{Fault}
use Rattle.ix_base.specs.Reading.{Input, number, initial_length, offset, part, input, ◌>>=◌ as ◌>>=?◌}
use Rattle.index_model.specs.declared.range.Range.{Range}
use Rattle.index_model.specs.declared.unit.Unit.{Unit as UnitHeader}
use Rattle.index_model.specs.Meaning.{◌>>=◌, ◌>>◌, fault, holds_or, some_or}
use Rattle.index_model.specs.Sections.{Section, field, section_bytes}
use Rattle.index_model.specs.Tiling.{tiles}
use Rattle.index_model.specs.Units.{is_types}
use Rattle.index_model.specs.Ranges.{contains, is_kept}
use Rattle.reach_model.specs.declared.code.TheConstants.{ARANGES_LENGTH, ARANGES_VERSION, ARANGES_UNIT, ARANGES_SIZES, ARANGES_NO_END}

-- ---- the header of a set

-- what stands in it behind the initial length
pub record SetHeader : Type 0 where
  pub version : ℕ
  pub unit_offset : ℕ
  pub address_size : ℕ
  pub segment_size : ℕ

-- each field in its order
unfoldable pub set_header : Bool → Input → Option (SetHeader × Input)
set_header wide i =
    number 2 i >>=? λ version. offset wide version.1 >>=? λ unit. number 1 unit.1 >>=? λ address. number 1 address.1 >>=? λ segment.
    Some (record { version = version.0; unit_offset = unit.0; address_size = address.0; segment_size = segment.0 }, segment.1)

-- the number of the unit of `.debug_info` that begins at an offset
abbrev pub unit_from : List UnitHeader → ℕ → Option ℕ
unit_from units at = option_map (λ e. e.0) (find (λ e. not (is_types e.1.part) && e.1.start == at) (enumerate_from 0 units))

-- ---- the pairs of a set

-- an address, and how many bytes stand from it on
pub record Pair : Type 0 where
  pub address : ℕ
  pub length : ℕ

-- n pairs, one behind the other
unfoldable pub pairs : ℕ → List ℕ → List Pair
pairs zero bytes = []
pairs (suc n) bytes = record { address = field 8 0 bytes; length = field 8 8 bytes } ∷ pairs n (drop 16 bytes)

-- the pair of zeros ends a set
abbrev pub is_end : Pair → Bool
is_end p = p.address == 0 && p.length == 0

-- those of the pairs that stand before the first pair of zeros; none, where there is no such pair
abbrev pub before_end : List Pair → Option (List Pair)
before_end ps = option_map (λ n. take n ps) (position is_end ps)

-- the pairs in these bytes, up to the pair of zeros
abbrev pub pairs_in : List ℕ → Option (List Pair)
pairs_in bytes = before_end (pairs (length bytes / 16) bytes)

-- the ranges of pairs that count
abbrev pub kept_ranges : List Pair → List Range
kept_ranges ps = filter is_kept (map (λ p. record { low = p.address; end = p.address + p.length }) ps)

-- how many bytes lead from a place to the next multiple of 16, the size of a pair
abbrev pub padding : ℕ → ℕ
padding place = (16 - place % 16) % 16

-- ---- the sets

-- a set: the number of its unit, and its ranges
pub record AddressSet : Type 0 where
  pub unit : ℕ
  pub ranges : List Range

-- the header of a set and the bytes of its pairs, which begin at a multiple of 16 bytes from the set's first byte on
pub record SetParts : Type 0 where
  pub header : SetHeader
  pub pairs : List ℕ

-- those of the set at the front, and what stands behind the set
unfoldable pub set_parts : Input → Option (SetParts × Input)
set_parts i =
    initial_length i >>=? λ len. part len.0.length len.1 >>=? λ own. set_header len.0.wide own.0 >>=? λ header.
    Some (record { header = header.0; pairs = drop (padding (header.1.at - i.at)) header.1.rest }, own.1)

-- the number of the unit that a header names, or the fault of the set at a place
unfoldable pub unit_of_set : List UnitHeader → ℕ → SetHeader → Result ℕ Fault
unit_of_set units place h = do
  holds_or (h.version == 2) (fault ARANGES_VERSION place)
  unit ← some_or (unit_from units h.unit_offset) (fault ARANGES_UNIT place)
  holds_or (h.address_size == 8 && h.segment_size == 0) (fault ARANGES_SIZES place)
  Ok unit

-- the set at the front, and what stands behind it
unfoldable pub next_set : List UnitHeader → ℕ → Input → Result (AddressSet × Input) Fault
next_set units k i = do
  parts ← some_or (set_parts i) (fault ARANGES_LENGTH i.at)
  unit ← unit_of_set units i.at parts.0.header
  ps ← some_or (pairs_in parts.0.pairs) (fault ARANGES_NO_END i.at)
  Ok (record { unit = unit; ranges = kept_ranges ps }, parts.1)

-- the sets that tile the table, or the first fault
unfoldable pub address_sets : List Section → List UnitHeader → Result (List AddressSet) Fault
address_sets ss units = tiles (next_set units) 0 (input (section_bytes ss (codes ".debug_aranges")) 0)

-- whether a set has the address
abbrev pub has_address : ℕ → AddressSet → Bool
has_address a s = list_any (contains a) s.ranges

-- the least unit among the sets that have the address
unfoldable pub aranges_unit_at : List AddressSet → ℕ → Option ℕ
aranges_unit_at sets a = reduce min (map (λ s. s.unit) (filter (has_address a) sets))
