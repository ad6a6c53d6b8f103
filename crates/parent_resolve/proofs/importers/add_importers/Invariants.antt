use Rattle.std.proofs.Common.{drop}
use Rattle.index_model.specs.ShardLanguages.{imported_from}
use Rattle.parent_resolve.proofs.ImporterLaws.{IsLeft}
use Rattle.parent_resolve.proofs.importers.add_importers.Given as goal

abbrev pub invariant-loop-import : goal.invariant-loop-import
invariant-loop-import l = IsLeft (imported_from l.shard) l.initial.languages l.import-items l.languages (drop l.import-index l.import-items)
