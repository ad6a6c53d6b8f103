use Rattle.index_pool.specs.Files.{AreFirstRanges}
use Rattle.index_pool.proofs.ranges.all_ranges.Given as goal

abbrev pub invariant-loop-number : goal.invariant-loop-number
invariant-loop-number l = AreFirstRanges l.fn.image l.number l.found
