use Rattle.std.proofs.Common.{drop}
use Rattle.std.specs.Arc.{arc_value}
use Rattle.index_model.specs.ShardLanguages.{importing_in}
use Rattle.parent_resolve.proofs.ImporterLaws.{IsLeft}
use Rattle.parent_resolve.proofs.importers.languages_of.Given as goal

abbrev pub invariant-loop-shard : goal.invariant-loop-shard
invariant-loop-shard l = IsLeft (λ o s. importing_in o (arc_value s)) l.initial.languages l.shards l.languages (drop l.shard-index l.shards)
