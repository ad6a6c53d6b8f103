use Rattle.shard_build.specs.Entries.{EntriesOf}
use Rattle.qualified_names.specs.Fronts.{AreFronts}
use Rattle.qualified_names.proofs.fronts.Fronts.new.Given as goal

abbrev pub invariant-loop : goal.invariant-loop
invariant-loop l = (e : EntriesOf) → AreFronts e l.kept.items
