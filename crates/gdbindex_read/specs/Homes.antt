-- Where the paths of names begin.
use Rattle.std.specs.Prelude.{◌≡◌, ℕ, ◌%◌, Bool, true, false, List, length, slice_index_or, Option, Some, None}
use Rattle.index_model.specs.Hashes.{gdb_hash}
use Rattle.index_model.specs.GdbIndexRead.{Slot as FullSlot, slot_or_none}
use Rattle.gdbindex_read.specs.declared.homes.PathStart.{PathStart}
use Rattle.gdbindex_read.specs.Slots.{is_reached}
use Rattle.string_ends.specs.Tails.{print_of}

-- the home of the slot at a place, which isn't empty
pub record IsHome (slots : List (Option FullSlot)) (k : ℕ) (h : PathStart) : Type 0 where
  pub slot : FullSlot
  pub there : slot_or_none slots k ≡ Some slot
  pub begin : h.begin ≡ gdb_hash slot.name % length slots
  pub print : h.print ≡ print_of slot.name

-- the homes of slots, of which some may be missing
pub record AreHomes (slots : List (Option FullSlot)) (homes : List (Option PathStart)) : Type 0 where
  pub size : length homes ≡ length slots
  pub each : (k : ℕ) (h : PathStart) → slice_index_or homes k None ≡ Some h → IsHome slots k h

-- the homes of some slots
abbrev pub AreHomesOf : List (Option FullSlot) → List (Option PathStart) → Type 0
AreHomesOf slots homes = (k : ℕ) (h : PathStart) → slice_index_or homes k None ≡ Some h → IsHome slots k h

-- the slot at a place isn't empty, and this is the print of its name
abbrev pub IsPrintAt : List (Option FullSlot) → ℕ → ℕ → Type 0
IsPrintAt slots k print = (slot : FullSlot) × (slot_or_none slots k ≡ Some slot) × (print ≡ print_of slot.name)

-- the slots at these places are found by their names
abbrev pub AreFound : List (Option FullSlot) → List Bool → Type 0
AreFound slots found = (k : ℕ) → slice_index_or found k false ≡ true → is_reached slots k ≡ true
