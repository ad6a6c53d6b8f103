use Rattle.std.proofs.Common.{◌≡◌, ℕ, Some, None, length, get_or}
use Rattle.gdbindex_read.specs.declared.homes.PathStart.{PathStart}
use Rattle.gdbindex_read.specs.Homes.{IsHome}
use Rattle.gdbindex_read.specs.Slots.{slots_seen}
use Rattle.gdbindex_read.proofs.symbols.SymbolTable.homes.Given as goal

abbrev pub invariant-loop-place : goal.invariant-loop-place
invariant-loop-place l = record {
  size : length l.homes.items ≡ l.place;
  each : (k : ℕ) (h : PathStart) → get_or l.homes.items k None ≡ Some h → IsHome (slots_seen l.self) k h;
}
