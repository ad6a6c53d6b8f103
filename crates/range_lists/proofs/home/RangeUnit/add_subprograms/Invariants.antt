use Rattle.std.proofs.Common.{drop, filter}
use Rattle.range_lists.specs.Found.{AreRead}
use Rattle.range_lists.specs.Homes.{unit_with}
use Rattle.range_lists.specs.Nodes.{all_node_ranges, is_linked_subprogram, EntriesRise}
use Rattle.range_lists.proofs.Walking.{SoFar}
use Rattle.range_lists.proofs.home.RangeUnit.add_subprograms.Given as goal

-- the ranges so far, and those of the nodes that are still to come
abbrev pub invariant-loop-k : goal.invariant-loop-k
invariant-loop-k l = EntriesRise l.entries → AreRead l.self.sections.now l.fn.found → SoFar l.self.sections.now l.self.number l.fn.found l.found (all_node_ranges l.self.sections.now (unit_with l.self) (filter (is_linked_subprogram l.entries) l.nodes)) (all_node_ranges l.self.sections.now (unit_with l.self) (filter (is_linked_subprogram l.entries) (drop l.k l.nodes)))
