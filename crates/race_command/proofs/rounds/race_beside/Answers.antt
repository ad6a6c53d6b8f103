use denote.Param.Send.{sendable}
use Rattle.std.proofs.Crossing.{crosses}
use Rattle.race_command.proofs.Crossing.{runner_send}
use Rattle.race_command.proofs.rounds.race_beside.Goals as goal

-- the bounds are bound by names, since a search takes those first
pub join_mut-ended-requires-send-F : goal.join_mut-ended-requires-send-F
join_mut-ended-requires-send-F g c κs within =
    let runtime_sync = c.type_bounds.sync-R in
    let gate_sync = c.type_bounds.sync-G in
    search (sendable, crosses, runner_send) depth 30 fits 5000 parts 0
