use Rattle.std.proofs.Common.{◌≡◌, take, length}
use Rattle.index_model.specs.GdbSlots.{slot_count, slots_of}
use Rattle.gdbindex_write.specs.Slots.{numbers_at, AreFronts}
use Rattle.gdbindex_write.specs.Symbols.{names_of}
use Rattle.gdbindex_write.proofs.slots.numbers_in_slots.Given as goal

abbrev pub invariant-loop-number : goal.invariant-loop-number
invariant-loop-number l = record {
  made : l.slots.items ≡ numbers_at (slot_count (length (names_of l.symbols))) (take l.number (slots_of (names_of l.symbols)));
  fronts : AreFronts l.slots.items l.fronts.items;
}
