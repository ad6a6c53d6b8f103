-- The areas that were found, and their items.
use Rattle.std.specs.Prelude.{◌≡◌, ◌<◌, ◌≤◌, ℕ, ◌+◌, ◌*◌, ◌%◌, ◌==◌, ◌||◌, nat_le, List, length, take, drop, Result, Ok}
use Rattle.ix_base.specs.declared.fault.Fault.{Fault}
use Rattle.ix_base.specs.Reading.{Input}
use Rattle.index_model.specs.declared.index_code.TheConstants.{GDB_OFFSETS, GDB_UNIT_LIST}
use Rattle.index_model.specs.Meaning.{◌>>◌, fault, holds_or}
use Rattle.index_model.specs.GdbAreas.{areas, Areas as AreasOf}
use Rattle.gdbindex_read.specs.declared.area.Area.{Area}
use Rattle.gdbindex_read.specs.declared.areas.Areas.{Areas}

-- an area is its place and its bytes
abbrev pub area_seen : Area → Input
area_seen a = record { at = a.at; rest = a.bytes.now }

-- all areas
abbrev pub areas_seen : Areas → AreasOf
areas_seen a = record { cus = area_seen a.cus; types = area_seen a.types; addresses = area_seen a.addresses; table = area_seen a.table; shortcut = area_seen a.shortcut; pool = area_seen a.pool }

-- the item with this number among the items of n bytes each
abbrev pub item : ℕ → Input → ℕ → Input
item n area k = record { at = area.at + n * k; rest = take n (drop (n * k) area.rest) }

-- both lists of units end with an entry
unfoldable pub whole_lists : AreasOf → Result (record {}) Fault
whole_lists a = do
  holds_or (length a.cus.rest % 16 == 0) (fault GDB_UNIT_LIST a.cus.at)
  holds_or (length a.types.rest % 24 == 0) (fault GDB_UNIT_LIST a.types.at)

-- the area of the shortcut has no bytes, or all of it
abbrev pub HasShortcut : Areas → Type 0
HasShortcut a = 0 < length a.shortcut.bytes.now → 8 ≤ length a.shortcut.bytes.now

-- in version 9 the area of the shortcut has all of its bytes
abbrev pub checked_shortcut : ℕ → Input → Result (record {}) Fault
checked_shortcut version shortcut = holds_or (version == 8 || nat_le 8 (length shortcut.rest)) (fault GDB_OFFSETS 20)

-- the areas are those of the section, and end with whole entries of their lists of units
pub record AreAreasOf (section : List ℕ) (a : Areas) : Type 0 where
  pub are : areas section ≡ Ok (areas_seen a)
  pub whole : whole_lists (areas_seen a) ≡ Ok (record {})
