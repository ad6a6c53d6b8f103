use Rattle.std.proofs.Common.{◌≡◌, ◌*◌, ◌%◌}
use Rattle.index_model.specs.Hashes.{gdb_hash, odd, slot_on_path}
use Rattle.gdbindex_read.specs.Slots.{slots_seen}
use Rattle.gdbindex_read.proofs.Loops.{found_from}
use Rattle.gdbindex_read.proofs.Paths.{ends}
use Rattle.gdbindex_read.proofs.symbols.SymbolTable.short_path_end.Given as goal

-- the path goes on, and its end is among the places that are left
abbrev pub invariant-loop-steps : goal.invariant-loop-steps
invariant-loop-steps l = record {
  place : l.path.place ≡ slot_on_path l.slots (gdb_hash l.name) l._steps;
  step : l.path.step ≡ odd (gdb_hash l.name * 17 % l.slots);
  slots : l.path.slots ≡ l.slots;
  left : found_from (ends (slots_seen l.self) l.name) (slot_on_path l.slots (gdb_hash l.name)) l._steps l.slots ≡ found_from (ends (slots_seen l.self) l.name) (slot_on_path l.slots (gdb_hash l.name)) 0 l.slots;
}
