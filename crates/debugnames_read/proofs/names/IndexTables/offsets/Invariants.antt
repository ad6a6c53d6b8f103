use Rattle.std.proofs.Common.{◌≡◌, ◌<◌, ◌-◌, ℕ, length, get_or}
use Rattle.index_model.specs.Layout.{nth}
use Rattle.debugnames_read.specs.Names.{tables_of}
use Rattle.debugnames_read.proofs.names.IndexTables.offsets.Given as goal

abbrev pub invariant-loop-number : goal.invariant-loop-number
invariant-loop-number l = record {
  size : length l.offsets.items ≡ l.number;
  each : (k : ℕ) → k < l.number → get_or l.offsets.items k 0 ≡ nth (tables_of l.self).strings.numbers k - l.self.base;
}
