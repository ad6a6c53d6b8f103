use denote.Ref.{NamedLft}
use denote.Param.Send.{IsSend, sendable}
use Rattle.std.proofs.Crossing.{crosses}
use Rattle.atomic_table.proofs.shared.Seat.TheSendSync as seat
use Rattle.stage_core.proofs.Crossing.{core_send}
use Rattle.index_board.proofs.Crossing.{board_sync}
use Rattle.thread_tests.specs.contracts.wanting.Player as Player
use Rattle.thread_tests.proofs.wanting.played.Goals as goal

player_send : (b l : NamedLft) → IsSend (Player.the_row b l)
player_send b l = search (sendable, crosses, seat.the_send, core_send, board_sync) depth 60 fits 60000

pub for_each_mut-requires-send-T : goal.for_each_mut-requires-send-T
for_each_mut-requires-send-T g c κs within = search (sendable, crosses, player_send) depth 60 fits 60000
