-- The slots of the symbol table.
use Rattle.std.specs.Prelude.{◌≡◌, Bool, true, ℕ, ◌/◌, ◌%◌, ◌&&◌, ◌==◌, if◌then◌else◌, List, [], length, map, Option, Some, None, option_map, unwrap_or, Result}
use Rattle.ix_base.specs.declared.fault.Fault.{Fault}
use Rattle.ix_base.specs.Reading.{Input}
use Rattle.index_model.specs.declared.index_code.TheConstants.{GDB_TABLE_SIZE}
use Rattle.index_model.specs.Meaning.{◌>>◌, each, fault, holds_or}
use Rattle.index_model.specs.Layout.{below, field}
use Rattle.index_model.specs.GdbAreas.{Areas, items, unit_count}
use Rattle.index_model.specs.GdbIndexRead.{Slot as FullSlot, is_found, is_table_size, slot_at, slot_or_none}
use Rattle.gdbindex_read.specs.declared.slots.Limits.{Limits}
use Rattle.gdbindex_read.specs.declared.slots.Slot.{Slot}
use Rattle.gdbindex_read.specs.declared.symbols.SymbolTable.{SymbolTable}
use Rattle.gdbindex_read.specs.Areas.{area_seen, item}
use Rattle.gdbindex_read.specs.Pool.{string_in, vector_in}
use Rattle.string_ends.specs.Texts.{IsLastEnd}

-- the offsets in the bytes of a slot, unless it is empty
abbrev pub slot_in : List ℕ → Option Slot
slot_in bytes = if field 8 0 bytes == 0 then None else Some (record { name = field 4 0 bytes; vector = field 4 4 bytes })

-- the name at an offset; where no name has its end there, the empty one
abbrev pub name_in : List ℕ → ℕ → List ℕ
name_in pool offset = unwrap_or (string_in pool offset) []

-- the elements at an offset; where no vector lies there, none
abbrev pub elements_in : List ℕ → ℕ → List ℕ
elements_in pool offset = unwrap_or (vector_in pool offset) []

-- a slot that isn't empty, at its place
abbrev pub full_seen : List ℕ → ℕ → Slot → FullSlot
full_seen pool at slot = record { at = at; name = name_in pool slot.name; elements = elements_in pool slot.vector }

-- the slot in these bytes
abbrev pub slot_seen : List ℕ → Input → Option FullSlot
slot_seen pool slot = option_map (full_seen pool slot.at) (slot_in slot.rest)

-- the limits are those of an index
pub record AreLimits (a : Areas) (l : Limits) : Type 0 where
  pub units : l.units ≡ unit_count a
  pub end : IsLastEnd a.pool.rest l.end

-- the symbol table
abbrev pub table_of : SymbolTable → Input
table_of t = area_seen t.table

-- how many slots it has
abbrev pub slot_count : SymbolTable → ℕ
slot_count t = length (table_of t).rest / 8

-- the slot at a place
abbrev pub slot_of : SymbolTable → ℕ → Option FullSlot
slot_of t k = slot_seen t.pool.now (item 8 (table_of t) k)

-- all slots
abbrev pub slots_seen : SymbolTable → List (Option FullSlot)
slots_seen t = map (slot_of t) (below (slot_count t))

-- the table ends with a slot, and the slots are none or a power of two
abbrev pub checked_size : Input → Result (record {}) Fault
checked_size table = holds_or (length table.rest % 8 == 0 && is_table_size (length table.rest / 8)) (fault GDB_TABLE_SIZE table.at)

-- the slots, or the first fault of the table
unfoldable pub checked_slots : Areas → Result (List (Option FullSlot)) Fault
checked_slots a = checked_size a.table >> each (slot_at a) (items 8 a.table)

-- the path of its name leads to a slot, if it isn't empty
abbrev pub is_found_from : List (Option FullSlot) → ℕ → Option FullSlot → Bool
is_found_from slots k None = true
is_found_from slots k (Some slot) = is_found slots k slot

-- the same of the slot at a place
abbrev pub is_reached : List (Option FullSlot) → ℕ → Bool
is_reached slots k = is_found_from slots k (slot_or_none slots k)
