use Rattle.index_model.proofs.PathLaws.{path_has_each_slot}
use Rattle.index_model.proofs.index_laws.path_has_each_slot.Goals as goal

pub returns : goal.returns
returns c = path_has_each_slot
