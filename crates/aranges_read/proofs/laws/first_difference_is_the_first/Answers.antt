use Rattle.aranges_read.proofs.FirstLaws.{first_difference_first}
use Rattle.aranges_read.proofs.laws.first_difference_is_the_first.Goals as goal

pub returns : goal.returns
returns c = first_difference_first
