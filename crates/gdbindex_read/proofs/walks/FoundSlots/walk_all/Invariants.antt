use Rattle.std.proofs.Common.{◌≡◌, List, Option, true, length}
use Rattle.index_model.specs.GdbIndexRead.{Slot, is_table_size}
use Rattle.gdbindex_read.specs.Homes.{AreFound, AreHomes}
use Rattle.gdbindex_read.proofs.walks.FoundSlots.walk_all.Given as goal

abbrev pub invariant-loop-begin : goal.invariant-loop-begin
invariant-loop-begin l = (slots : List (Option Slot)) → AreHomes slots l.homes → is_table_size (length slots) ≡ true → AreFound slots l.fn.self.places.items → AreFound slots l.self.places.items
