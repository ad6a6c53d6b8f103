use Rattle.std.proofs.Common.{length}
use Rattle.index_model.specs.Walk.{items}
use Rattle.shard_build.specs.Again.{walk_by}
use Rattle.gdb_items.proofs.ReadLaws.{IsReadTo}
use Rattle.gdb_items.proofs.unit.items_by.Given as goal

-- of the entries that were passed those that are kept were read
abbrev pub invariant-loop-entry : goal.invariant-loop-entry
invariant-loop-entry l = IsReadTo l.home.sections.now (walk_by l.home l.abbrevs) l.which l.items.items l.walk

abbrev pub decreases-loop-entry : goal.decreases-loop-entry
decreases-loop-entry l = length (items l.walk)
