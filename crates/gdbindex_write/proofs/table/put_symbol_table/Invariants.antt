use Rattle.std.proofs.Common.{◌≡◌, ◌++◌, take}
use Rattle.std.specs.Prelude.{flat_map}
use Rattle.gdbindex_write.specs.Places.{numbered_bytes}
use Rattle.gdbindex_write.proofs.table.put_symbol_table.Given as goal

abbrev pub invariant-loop-slot : goal.invariant-loop-slot
invariant-loop-slot l = l.out.items ≡ l.initial.out.items ++ flat_map (numbered_bytes l.places) (take l.slot-index l.slots)
