use denote.Param.Send.{sendable}
use Rattle.std.proofs.Crossing.{crosses}
use Rattle.serve_command.proofs.Crossing.{listener_send}
use Rattle.serve_command.proofs.serve.listen_beside.Goals as goal

-- the bounds are bound by names, since a search takes those first
pub join_mut-requires-send-F : goal.join_mut-requires-send-F
join_mut-requires-send-F g c κs within =
    let input_send = c.type_bounds.send-S in
    let out_send = c.type_bounds.send-K in
    let runtime_sync = c.type_bounds.sync-R in
    let gate_sync = c.type_bounds.sync-G in
    search (sendable, crosses, listener_send) depth 30 fits 5000 parts 0
