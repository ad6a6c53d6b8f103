use Rattle.std.proofs.Common.{refl}
use Rattle.index_vectors.proofs.Opened.{all_defs}
use Rattle.index_vectors.proofs.limits.depth_ends.Goals as goal

pub returns-clause-any_entry : goal.returns-clause-any_entry
unfolding all_defs
returns-clause-any_entry c = λ u abbrevs root at a i. refl

pub returns-clause-namespaces : goal.returns-clause-namespaces
unfolding all_defs
returns-clause-namespaces c = record { last = refl; beyond = refl }
