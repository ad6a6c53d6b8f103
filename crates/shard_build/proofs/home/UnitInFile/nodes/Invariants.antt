use Rattle.std.proofs.Common.{length}
use Rattle.index_model.specs.Walk.{items}
use Rattle.shard_build.specs.Again.{walk_by}
use Rattle.shard_build.proofs.UnitRead.{IsReadTo}
use Rattle.shard_build.proofs.home.UnitInFile.nodes.Given as goal

-- the entries that were passed have their nodes
abbrev pub invariant-loop-entry : goal.invariant-loop-entry
invariant-loop-entry l = IsReadTo l.self.sections.now (walk_by l.self l.abbrevs) l.nodes.nodes l.above.offsets.items l.walk

abbrev pub decreases-loop-entry : goal.decreases-loop-entry
decreases-loop-entry l = length (items l.walk)
