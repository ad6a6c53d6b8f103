use Rattle.index_model.proofs.InnermostLaws.{parent_innermost, root_in_no_span}
use Rattle.index_model.proofs.ResumeLaws.{resumed_same}
use Rattle.index_model.proofs.laws.spans_stand_for_children.Goals as goal

pub returns-clause-parent : goal.returns-clause-parent
returns-clause-parent c = parent_innermost

pub returns-clause-root : goal.returns-clause-root
returns-clause-root c = root_in_no_span

pub returns-clause-resumed : goal.returns-clause-resumed
returns-clause-resumed c = resumed_same
