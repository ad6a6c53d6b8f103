use Rattle.std.proofs.Common.{◌≡◌, length}
use Rattle.gdbindex_read.specs.Runs.{AreRuns}
use Rattle.gdbindex_read.proofs.runs.Runs.of.Given as goal

abbrev pub invariant-loop-passed : goal.invariant-loop-passed
invariant-loop-passed l = record {
  size : length l.lengths.items ≡ length l.pool;
  runs : AreRuns l.pool l.units l.lengths.items;
}
