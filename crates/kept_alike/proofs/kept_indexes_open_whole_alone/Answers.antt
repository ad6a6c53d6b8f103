use Rattle.kept_alike.proofs.Laws.{cut, kept, whole}
use Rattle.kept_alike.proofs.kept_indexes_open_whole_alone.Goals as goal

pub returns-clause-kept : goal.returns-clause-kept
returns-clause-kept c = kept

pub returns-clause-whole : goal.returns-clause-whole
returns-clause-whole c = whole

pub returns-clause-cut : goal.returns-clause-cut
returns-clause-cut c = cut
