use Rattle.std.proofs.Common.{◌≡◌, ◌<◌, ℕ, Some, length, get_or}
use Rattle.gdbindex_read.specs.declared.slots.Slot.{Slot}
use Rattle.gdbindex_read.specs.Areas.{item}
use Rattle.gdbindex_read.specs.Slots.{slot_in, table_of}
use Rattle.gdbindex_read.proofs.symbols.SymbolTable.offsets.Given as goal

abbrev pub invariant-loop-place : goal.invariant-loop-place
invariant-loop-place l = record {
  size : length l.offsets.items ≡ l.place;
  names : (k : ℕ) (slot : Slot) → k < l.place → slot_in (item 8 (table_of l.self) k).rest ≡ Some slot → get_or l.offsets.items k 0 ≡ slot.name;
}
