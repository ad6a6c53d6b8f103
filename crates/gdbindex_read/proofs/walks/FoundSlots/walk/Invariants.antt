use Rattle.std.proofs.Common.{◌≡◌, ◌<◌, ℕ, ◌*◌, ◌%◌, List, Option, true, length}
use Rattle.index_model.specs.Hashes.{odd, slot_on_path}
use Rattle.index_model.specs.GdbIndexRead.{Slot, is_table_size}
use Rattle.gdbindex_read.specs.Homes.{AreFound, AreHomes}
use Rattle.gdbindex_read.proofs.WalkLaws.{IsMet}
use Rattle.gdbindex_read.proofs.walks.FoundSlots.walk.Given as goal

abbrev pub invariant-loop-steps : goal.invariant-loop-steps
invariant-loop-steps l = record {
  place : l.path.place ≡ slot_on_path (length l.homes) l.begin l._steps;
  step : l.path.step ≡ odd (l.begin * 17 % length l.homes);
  slots : l.path.slots ≡ length l.homes;
  met : (j : ℕ) → j < l._steps → IsMet l.homes l.begin l.self.prints (slot_on_path (length l.homes) l.begin j);
  found : (slots : List (Option Slot)) → AreHomes slots l.homes → is_table_size (length slots) ≡ true → AreFound slots l.fn.self.places.items → AreFound slots l.self.places.items;
}
