use Rattle.index_model.specs.Stages.{same}
use Rattle.serve_command.proofs.listen.wait_for.Goals as goal

pub returns-else-stage-gt0-clause-reach : goal.returns-else-stage-gt0-clause-reach
returns-else-stage-gt0-clause-reach g c = same
