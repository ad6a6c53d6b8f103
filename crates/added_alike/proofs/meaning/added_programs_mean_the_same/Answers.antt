use Rattle.added_alike.proofs.IndexAdded.{indexed_means_the_same}
use Rattle.added_alike.proofs.SameMeaning.{added_means_the_same}
use Rattle.added_alike.proofs.meaning.added_programs_mean_the_same.Goals as goal

pub returns-clause-any : goal.returns-clause-any
returns-clause-any c = added_means_the_same

pub returns-clause-index : goal.returns-clause-index
returns-clause-index c = indexed_means_the_same
