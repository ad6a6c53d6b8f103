use Rattle.std.proofs.Common.{◌≡◌, length}
use Rattle.gdbindex_read.proofs.walks.name_counts.Given as goal

abbrev pub invariant-loop-place : goal.invariant-loop-place
invariant-loop-place l = length l.counts.items ≡ length l.homes
