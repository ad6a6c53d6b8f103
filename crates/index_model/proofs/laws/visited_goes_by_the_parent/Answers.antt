use Rattle.index_model.proofs.VisitedLaws.{visited_by_parent}
use Rattle.index_model.proofs.laws.visited_goes_by_the_parent.Goals as goal

pub returns : goal.returns
returns c = visited_by_parent
