use Rattle.index_model.proofs.LookupLaws.{path_finds_all}
use Rattle.index_model.proofs.index_laws.path_finds_all.Goals as goal

pub returns : goal.returns
returns c = path_finds_all
