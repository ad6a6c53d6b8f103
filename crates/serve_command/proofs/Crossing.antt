-- The reader of a session may go to another thread, with the room for its lines.
use denote.Ref.{NamedLft}
use denote.Param.Send.{IsSend, sendable}
use Rattle.std.proofs.Crossing.{crosses}
use Rattle.index_board.proofs.Crossing.{reader_send}
use Rattle.session_base.proofs.Crossing.{line_send}
use Rattle.serve_command.specs.contracts.listen.Listener as Listener

pub listener_send : (b l : NamedLft) → IsSend (Listener.the_row b l)
listener_send b l = search (sendable, crosses, reader_send, line_send) depth 60 fits 60000
