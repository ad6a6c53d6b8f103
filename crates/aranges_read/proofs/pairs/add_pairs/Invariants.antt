use Rattle.std.proofs.Common.{◌≡◌, length}
use Rattle.reach_model.specs.AddressSets.{pairs_in}
use Rattle.aranges_read.specs.Sets.{with_pairs}
use Rattle.aranges_read.proofs.pairs.add_pairs.Given as goal

-- the ranges so far, and those of the pairs that are left, are the ranges of all pairs
abbrev pub invariant-loop-pair : goal.invariant-loop-pair
invariant-loop-pair l = with_pairs l.ranges.items l.unit l.place (pairs_in l.cursor.rest) ≡ with_pairs l.initial.ranges.items l.unit l.place (pairs_in l.pairs)

abbrev pub decreases-loop-pair : goal.decreases-loop-pair
decreases-loop-pair l = length l.cursor.rest
