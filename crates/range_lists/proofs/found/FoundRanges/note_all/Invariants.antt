use Rattle.std.proofs.Common.{◌≡◌, ◌⊎◌}
use Rattle.std.specs.Prelude.{Contains}
use Rattle.range_lists.specs.declared.found.RangeList.{RangeList}
use Rattle.range_lists.proofs.found.FoundRanges.note_all.Given as goal

-- the ranges are the same, and no other lists were added
abbrev pub invariant-loop-list : goal.invariant-loop-list
invariant-loop-list l = record {
  ranges : l.self.ranges ≡ l.fn.self.ranges;
  lists : (other : RangeList) → Contains l.self.lists.keys other → Contains l.lists other ⊎ Contains l.fn.self.lists.keys other;
}
