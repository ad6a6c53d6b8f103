use Rattle.index_model.proofs.UnitAtLaws.{unit_at_least}
use Rattle.index_model.proofs.laws.unit_at_is_the_least.Goals as goal

pub returns : goal.returns
returns c = unit_at_least
