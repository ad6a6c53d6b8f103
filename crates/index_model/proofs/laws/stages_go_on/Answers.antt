use Rattle.index_model.proofs.StageLaws.{closure, order, last}
use Rattle.index_model.proofs.laws.stages_go_on.Goals as goal

pub returns-clause-closure : goal.returns-clause-closure
returns-clause-closure c = closure

pub returns-clause-order : goal.returns-clause-order
returns-clause-order c = order

pub returns-clause-last : goal.returns-clause-last
returns-clause-last c = last
