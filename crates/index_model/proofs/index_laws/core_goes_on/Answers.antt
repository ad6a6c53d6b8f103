use Rattle.index_model.proofs.CoreRight.{states_go_on, stages_follow, levels_follow}
use Rattle.index_model.proofs.index_laws.core_goes_on.Goals as goal

pub returns-clause-states : goal.returns-clause-states
returns-clause-states c = states_go_on

pub returns-clause-stages : goal.returns-clause-stages
returns-clause-stages c = stages_follow

pub returns-clause-levels : goal.returns-clause-levels
returns-clause-levels c = levels_follow
