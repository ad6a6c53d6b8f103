use Rattle.std.proofs.Common.{◌≡◌, ℕ, ◌*◌, ◌^◌, ◌<◌}
use Rattle.gdbindex_write.proofs.slots.slot_count.Given as goal

abbrev pub invariant-loop-doubled : goal.invariant-loop-doubled
invariant-loop-doubled l = record {
  power : l.slots ≡ 2 ^ l.doubled;
  small : l.slots < 2 ^ 34;
  few : (j : ℕ) → j < l.doubled → 3 * 2 ^ j < 4 * l.names;
}
