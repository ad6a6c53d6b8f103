use Rattle.std.proofs.Common.{◌≡◌, ◌+◌, [], length}
use Rattle.ix_base.specs.Reading.{input}
use Rattle.index_model.specs.Tiling.{tiles}
use Rattle.reach_model.specs.AddressSets.{next_set}
use Rattle.aranges_read.specs.Sets.{with_sets}
use Rattle.aranges_read.proofs.table.ranges_of_sets.Given as goal

-- the ranges so far, and those of the sets that are left, are the ranges of all sets
abbrev pub invariant-loop-cursor : goal.invariant-loop-cursor
invariant-loop-cursor l = record {
  so_far : with_sets l.ranges.items (tiles (next_set l.units) 0 l.cursor) ≡ with_sets [] (tiles (next_set l.units) 0 (input l.bytes 0));
  end : l.cursor.at + length l.cursor.rest ≡ length l.bytes;
}

abbrev pub decreases-loop-cursor : goal.decreases-loop-cursor
decreases-loop-cursor l = length l.cursor.rest
