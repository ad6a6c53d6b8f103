use Rattle.std.proofs.Common.{◌≡◌, ℕ, ◌<◌, length, get_or}
use Rattle.gdbindex_write.proofs.slots.path_begins.Given as goal

abbrev pub invariant-loop-begin : goal.invariant-loop-begin
invariant-loop-begin l = record {
  size : length l.fronts.items ≡ l.begin;
  each : (k : ℕ) → k < l.begin → get_or l.fronts.items k 0 ≡ k;
}
