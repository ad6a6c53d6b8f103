use Rattle.index_model.proofs.CoreRight.{core_is_right}
use Rattle.index_model.proofs.index_laws.core_is_right.Goals as goal

pub returns : goal.returns
returns c = core_is_right
