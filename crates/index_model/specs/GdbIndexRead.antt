-- What a `.gdb_index` means, and its look-ups (GDB manual, index section format).
use Rattle.std.specs.Prelude.{ℕ, ◌^◌, ◌/◌, ◌%◌, Bool, false, not, ◌&&◌, ◌||◌, nat_lt, nat_le, ◌==◌, if◌then◌else◌, List, [], ◌∷◌, length, find, flat_map, bytes_eq, slice_get, Option, Some, None, option_map, unwrap_or, Result, Ok}
use Rattle.std.specs.List.{list_any, list_all, enumerate_from}
use Rattle.ix_base.specs.declared.fault.Fault.{Fault}
use Rattle.ix_base.specs.Reading.{Input, ◌>>=◌ as ◌>>=?◌}
use Rattle.index_model.specs.declared.answer.Main.{Main}
use Rattle.index_model.specs.declared.index_code.TheConstants.{GDB_UNIT_LIST, GDB_ADDRESS_AREA, GDB_TABLE_SIZE, GDB_BAD_NAME, GDB_BAD_VECTOR, GDB_LOST_SLOT}
use Rattle.index_model.specs.Meaning.{◌>>=◌, ◌>>◌, fault, holds_or, some_or, each, wrong_in}
use Rattle.index_model.specs.Layout.{below, field}
use Rattle.index_model.specs.Hashes.{path}
use Rattle.index_model.specs.GdbAreas.{Areas, items, areas, unit_count, string_at, vector_at}

-- ---- the address area

-- addresses, and the index number of their unit
pub record Address : Type 0 where
  pub low : ℕ
  pub end : ℕ
  pub number : ℕ

-- an entry of the address area, whose unit there must be
unfoldable pub address : Areas → Input → Result Address Fault
address a entry = do
  let number = field 4 16 entry.rest
  holds_or (nat_lt number (unit_count a)) (fault GDB_ADDRESS_AREA entry.at)
  Ok (record { low = field 8 0 entry.rest; end = field 8 8 entry.rest; number = number })

-- ---- the symbol table

-- none or a power of two; 4 bytes hold the offset of an area, so there are fewer than 2 ^ 32 slots
unfoldable pub is_table_size : ℕ → Bool
is_table_size n = n == 0 || list_any (λ k. n == 2 ^ k) (below 32)

-- the index number of an element, whatever stands in its bits 24 to 31
abbrev pub unit_in : ℕ → ℕ
unit_in element = element % 2 ^ 24

-- a slot with a name: its place, the name, and the elements of its vector
pub record Slot : Type 0 where
  pub at : ℕ
  pub name : List ℕ
  pub elements : List ℕ

-- a slot that isn't empty; its name is tested before its vector
unfoldable pub full_slot : Areas → Input → Result (Option Slot) Fault
full_slot a slot = do
  name ← some_or (string_at a (field 4 0 slot.rest)) (fault GDB_BAD_NAME slot.at)
  elements ← some_or (vector_at a (field 4 4 slot.rest)) (fault GDB_BAD_VECTOR slot.at)
  holds_or (list_all (λ e. nat_lt (unit_in e) (unit_count a)) elements) (fault GDB_BAD_VECTOR slot.at)
  Ok (Some (record { at = slot.at; name = name; elements = elements }))

-- a slot of 8 bytes; where all are zero it is empty
abbrev pub slot_at : Areas → Input → Result (Option Slot) Fault
slot_at a slot = if field 8 0 slot.rest == 0 then Ok None else full_slot a slot

-- a slot of the table; one that isn't there counts as empty
abbrev pub slot_or_none : List (Option Slot) → ℕ → Option Slot
slot_or_none slots k = unwrap_or (slice_get slots k) None

-- a slot that isn't empty and has another name
abbrev pub is_other : List ℕ → Option Slot → Bool
is_other name None = false
is_other name (Some slot) = not (bytes_eq slot.name name)

-- the places on a path before a slot
unfoldable pub places_before : ℕ → List ℕ → List ℕ
places_before slot [] = []
places_before slot (k ∷ ks) = if k == slot then [] else k ∷ places_before slot ks

-- on the path of the slot's name no empty slot and no slot with that name stands before it
unfoldable pub is_found : List (Option Slot) → ℕ → Slot → Bool
is_found slots k slot = list_all (λ other. is_other slot.name (slot_or_none slots other)) (places_before k (path (length slots) slot.name))

-- a slot that isn't empty must be found on the path of its name
abbrev pub reached : List (Option Slot) → ℕ × Option Slot → Result (record {}) Fault
reached slots (k, None) = Ok (record {})
reached slots (k, Some slot) = holds_or (is_found slots k slot) (fault GDB_LOST_SLOT slot.at)

-- ---- the shortcut

-- main, by its language and the place of its name; a language of 0 says that there is none
unfoldable pub shortcut_at : Areas → Result (Option Main) Fault
shortcut_at a =
    let language = field 4 0 a.shortcut.rest in
    let named = some_or (string_at a (field 4 4 a.shortcut.rest)) (fault GDB_BAD_NAME a.shortcut.at) >>= λ name. Ok (Some (record { language = language; name = name })) in
    if language == 0 then Ok None else named

-- ---- the whole index

-- what look-ups need of an index
pub record GdbIndex : Type 0 where
  pub addresses : List Address
  pub slots : List (Option Slot)
  pub main : Option Main

-- the areas of lists end with an item
unfoldable pub whole_items : Areas → Result (List Address) Fault
whole_items a = do
  holds_or (length a.cus.rest % 16 == 0) (fault GDB_UNIT_LIST a.cus.at)
  holds_or (length a.types.rest % 24 == 0) (fault GDB_UNIT_LIST a.types.at)
  holds_or (length a.addresses.rest % 20 == 0) (fault GDB_ADDRESS_AREA a.addresses.at)
  each (address a) (items 20 a.addresses)

-- what the bytes of an index mean, or the first fault
unfoldable pub gdb_index : List ℕ → Result GdbIndex Fault
gdb_index bytes = do
  a ← areas bytes
  addresses ← whole_items a
  holds_or (length a.table.rest % 8 == 0 && is_table_size (length a.table.rest / 8)) (fault GDB_TABLE_SIZE a.table.at)
  slots ← each (slot_at a) (items 8 a.table)
  main ← shortcut_at a
  each (reached slots) (enumerate_from 0 slots)
  Ok (record { addresses = addresses; slots = slots; main = main })

-- the first fault of an index, if it has one
abbrev pub gdb_index_fault : List ℕ → Option Fault
gdb_index_fault bytes = wrong_in (gdb_index bytes)

-- ---- look-ups

-- the elements of a slot with this name
abbrev pub elements_of : List ℕ → Option Slot → List ℕ
elements_of name None = []
elements_of name (Some slot) = if bytes_eq slot.name name then slot.elements else []

-- all slots that aren't empty and whose string is the name, in the order of the table, each replaced by its elements
abbrev pub gdb_index_hits : GdbIndex → List ℕ → List ℕ
gdb_index_hits index name = flat_map (elements_of name) index.slots

-- the index number of the first address entry that contains the address
abbrev pub number_at : GdbIndex → ℕ → Option ℕ
number_at index a = option_map (λ e. e.number) (find (λ e. nat_le e.low a && nat_lt a e.end) index.addresses)

-- the shortcut, where its language fits in 16 bits
abbrev pub main_name : GdbIndex → Option Main
main_name index = index.main >>=? λ main. if nat_le main.language 65535 then Some main else None
