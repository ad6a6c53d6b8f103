use Rattle.std.proofs.Common.{◌≡◌, length}
use Rattle.index_model.specs.Walk.{items}
use Rattle.shard_build.proofs.unit.finish.Given as goal

abbrev pub invariant-loop : goal.invariant-loop
invariant-loop l = l.walk.end ≡ l.initial.walk.end

abbrev pub decreases-loop : goal.decreases-loop
decreases-loop l = length (items l.walk)
