use Rattle.std.proofs.Common.{◌≤◌, length}
use Rattle.parent_resolve.proofs.VisitLaws.{Climbs, IsEntryIn}
use Rattle.index_model.specs.Program.{Located}
use Rattle.parent_resolve.proofs.visits.is_visited_upwards.Given as goal

-- the entry is visited if the one at hand is, of which this is the parent; what stands before it is left to be searched
abbrev pub invariant-loop-parent : goal.invariant-loop-parent
invariant-loop-parent l = (l.before ≤ length l.shard.nodes) × ((d : Located) → IsEntryIn l.shard l.node l.ada d → Climbs l.ada l.shard.nodes d l.parent l.before)

abbrev pub decreases-loop-parent : goal.decreases-loop-parent
decreases-loop-parent l = l.before
