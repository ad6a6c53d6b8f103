use Rattle.index_model.proofs.SimpleNames.{simple_name_ends}
use Rattle.index_model.proofs.laws.simple_names_are_ends.Goals as goal

pub returns : goal.returns
returns c = simple_name_ends
