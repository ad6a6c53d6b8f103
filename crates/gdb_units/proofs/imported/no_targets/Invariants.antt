use Rattle.std.proofs.Common.{◌≡◌, ℕ, length, []}
use Rattle.gdb_units.specs.Imported.{targets_in}
use Rattle.gdb_units.proofs.imported.no_targets.Given as goal

abbrev pub invariant-loop : goal.invariant-loop
invariant-loop l = record {
  long : length l.targets.items ≡ l.counter;
  empty : (u : ℕ) → targets_in l.targets.items u ≡ [];
}
