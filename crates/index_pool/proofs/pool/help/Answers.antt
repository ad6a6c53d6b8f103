use Rattle.index_model.specs.Stages.{same}
use Rattle.index_pool.proofs.pool.help.Goals as goal

pub returns-in-None-clause-reach : goal.returns-in-None-clause-reach
returns-in-None-clause-reach g c = same
