-- A board may be shared by threads, and a pass and a reader may go to another one.
use denote.Ref.{NamedLft}
use denote.Param.Send.{IsSend, IsSync, sendable}
use Rattle.std.proofs.Crossing.{crosses}
use Rattle.atomic_table.proofs.shared.Shared.TheSendSync as shared
use Rattle.atomic_table.proofs.shared.Seat.TheSendSync as seat
use Rattle.atomic_table.proofs.send_lease.SendLease.TheSendSync as lease
use Rattle.file_image.specs.contracts.image.Image as Image
use Rattle.stage_core.proofs.Crossing.{core_send, parts_held}
use Rattle.index_board.specs.contracts.board.Board as Board
use Rattle.index_board.specs.contracts.reader.Reader as Reader

image_sync : (l : NamedLft) → IsSync (Image.the_row l)
image_sync l = search (sendable, crosses) depth 60 fits 60000

pub board_sync : (l : NamedLft) → IsSync (Board.the_row l)
board_sync l = search (sendable, crosses, shared.the_sync, lease.the_sync, image_sync, core_send) depth 60 fits 60000

pub reader_send : (b l : NamedLft) → IsSend (Reader.the_row b l)
reader_send b l = search (sendable, crosses, seat.the_send, core_send, parts_held, board_sync) depth 60 fits 60000
