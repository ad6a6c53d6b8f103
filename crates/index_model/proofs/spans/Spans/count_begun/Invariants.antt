use Rattle.std.proofs.Common.{◌-◌, ◌+◌, ◌≤◌, length}
use Rattle.std.specs.List.Sorted.{IsNonDecreasingBy}
use Rattle.index_model.proofs.Halves.{IsHalved}
use Rattle.index_model.proofs.spans.Spans.count_begun.Given as goal

-- what stands before the low end is begun, and what stands from the high end on isn't
abbrev pub invariant-loop-low : goal.invariant-loop-low
invariant-loop-low l = (l.low ≤ l.high) × (l.high ≤ length l.self) × (IsNonDecreasingBy (λ s. s.from) l.self → IsHalved (λ s. s.from) l.self (l.place + 1) l.low l.high)

abbrev pub decreases-loop-low : goal.decreases-loop-low
decreases-loop-low l = l.high - l.low
