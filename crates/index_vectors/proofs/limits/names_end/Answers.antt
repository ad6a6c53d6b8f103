use Rattle.std.proofs.Common.{refl}
use Rattle.index_vectors.proofs.Opened.{all_defs}
use Rattle.index_vectors.proofs.limits.names_end.Goals as goal

pub returns-clause-inline : goal.returns-clause-inline
unfolding all_defs
returns-clause-inline c = record {
  last = λ ss base wide s e. rw e refl;
  beyond = λ ss base wide s e. rw e refl;
}

pub returns-clause-in_section : goal.returns-clause-in_section
unfolding all_defs
returns-clause-in_section c = record {
  last = λ bytes s place found e. rw (found, e) refl;
  beyond = λ bytes s place found e. rw (found, e) refl;
  endless = λ bytes place found. rw found refl;
}

pub returns-clause-qualified : goal.returns-clause-qualified
unfolding all_defs
returns-clause-qualified c = record {
  last = λ name e. rw e refl;
  beyond = λ name e. rw e refl;
}
