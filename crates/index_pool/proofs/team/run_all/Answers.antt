use denote.Ref.{NamedLft}
use denote.Param.Send.{IsSend, sendable}
use Rattle.std.proofs.Crossing.{crosses}
use Rattle.atomic_table.proofs.shared.Seat.TheSendSync as seat
use Rattle.stage_core.proofs.Crossing.{core_send}
use Rattle.index_board.proofs.Crossing.{board_sync}
use Rattle.index_pool.specs.contracts.worker.Worker as Worker
use Rattle.index_pool.proofs.team.run_all.Goals as goal

worker_send : (b l : NamedLft) → IsSend (Worker.the_row b l)
worker_send b l = search (sendable, crosses, seat.the_send, core_send, board_sync) depth 60 fits 60000

pub for_each_mut-requires-send-T : goal.for_each_mut-requires-send-T
for_each_mut-requires-send-T g c κs within = search (sendable, crosses, worker_send) depth 60 fits 60000
