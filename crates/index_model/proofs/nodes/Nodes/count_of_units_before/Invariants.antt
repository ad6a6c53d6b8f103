use Rattle.std.proofs.Common.{◌-◌, ◌≤◌, length}
use Rattle.std.specs.List.Sorted.{IsNonDecreasingBy}
use Rattle.index_model.proofs.Halves.{IsHalved}
use Rattle.index_model.proofs.nodes.Nodes.count_of_units_before.Given as goal

-- what stands before the low end is below, and what stands from the high end on isn't
abbrev pub invariant-loop-low : goal.invariant-loop-low
invariant-loop-low l = (l.low ≤ l.high) × (l.high ≤ length l.self) × (IsNonDecreasingBy (λ n. n.facts.unit) l.self → IsHalved (λ n. n.facts.unit) l.self l.unit l.low l.high)

abbrev pub decreases-loop-low : goal.decreases-loop-low
decreases-loop-low l = l.high - l.low
