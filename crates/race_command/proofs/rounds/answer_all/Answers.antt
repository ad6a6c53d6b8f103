use denote.Param.Send.{sendable}
use Rattle.std.proofs.Crossing.{crosses}
use Rattle.race_command.proofs.Crossing.{runner_send}
use Rattle.race_command.proofs.rounds.answer_all.Goals as goal

pub for_each_mut-requires-send-T : goal.for_each_mut-requires-send-T
for_each_mut-requires-send-T g c κs within = search (sendable, crosses, runner_send) depth 60 fits 60000
