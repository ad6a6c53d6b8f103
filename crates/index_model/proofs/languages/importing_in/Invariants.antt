use Rattle.std.proofs.Common.{◌≡◌, drop}
use Rattle.index_model.specs.ShardLanguages.{first_some, imported_from}
use Rattle.index_model.proofs.languages.importing_in.Given as goal

-- the imports before this one give nothing
abbrev pub invariant-loop-import : goal.invariant-loop-import
invariant-loop-import l = first_some (imported_from l.shard l.offset) l.import-items ≡ first_some (imported_from l.shard l.offset) (drop l.import-index l.import-items)
