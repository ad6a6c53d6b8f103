-- The room for the lines of a session may go to another thread.
use denote.Param.Send.{IsSend, sendable}
use Rattle.std.proofs.Crossing.{crosses}
use Rattle.query_text.specs.contracts.line_buf.LineBuf as LineBuf

pub line_send : IsSend LineBuf.the_row
line_send = search (sendable, crosses) depth 60 fits 60000
