use Rattle.grown_alike.proofs.Whole.{grown_alike}
use Rattle.grown_alike.proofs.grown_programs_mean_the_same.Goals as goal

pub returns : goal.returns
returns c = grown_alike
