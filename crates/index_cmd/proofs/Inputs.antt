-- When the input isn't read.
use Rattle.std.proofs.Common.{ℕ, List, Option, Some}
use Rattle.command_base.specs.declared.status.Status.{Status}
use Rattle.command_base.specs.declared.status.Status.TheVariants.{Answered, Refused, Usage, ReadFault, StoreFault, WriteFault, NoMemory, IndexRefused, TableRefused, IndexTooLarge, FileTooBig, AlreadyIndexed, TooManySections, InputFault, InputTooLong, Stopped}
use Rattle.serve_command.specs.Listens.{CausesOfSession}
use Rattle.index_cmd.specs.Replies.{Ends, without_line, with_line, cut}
use Rattle.index_cmd.specs.Requests.{Request, OfServe, ReadsNoInput}
use Rattle.index_cmd.specs.Runs.{LeavesInput}
use Rattle.index_cmd.specs.declared.task.Serving.{Serving}

-- a session was listened to, so that its file was read
pub served_unread : (writes : Type 0) (how : Serving) (file : List ℕ) (P : Type 0) (status : Status) → CausesOfSession writes status → LeavesInput (Some (OfServe how file)) status → P
served_unread writes how file P ReadFault c l = absurd c
served_unread writes how file P FileTooBig c l = absurd c
served_unread writes how file P Answered c l = absurd l
served_unread writes how file P Refused c l = absurd l
served_unread writes how file P Usage c l = absurd l
served_unread writes how file P StoreFault c l = absurd l
served_unread writes how file P WriteFault c l = absurd l
served_unread writes how file P InputFault c l = absurd l
served_unread writes how file P NoMemory c l = absurd l
served_unread writes how file P IndexRefused c l = absurd l
served_unread writes how file P (TableRefused table) c l = absurd l
served_unread writes how file P IndexTooLarge c l = absurd l
served_unread writes how file P AlreadyIndexed c l = absurd l
served_unread writes how file P TooManySections c l = absurd l
served_unread writes how file P InputTooLong c l = absurd l
served_unread writes how file P Stopped c l = absurd l

-- a command that doesn't read it leaves it with every status
pub leaves_input : (request : Option Request) (status : Status) → ReadsNoInput request → LeavesInput request status
leaves_input request ReadFault n = tt
leaves_input request FileTooBig n = tt
leaves_input request Answered n = n
leaves_input request Refused n = n
leaves_input request Usage n = n
leaves_input request StoreFault n = n
leaves_input request WriteFault n = n
leaves_input request InputFault n = n
leaves_input request NoMemory n = n
leaves_input request IndexRefused n = n
leaves_input request (TableRefused table) n = n
leaves_input request IndexTooLarge n = n
leaves_input request AlreadyIndexed n = n
leaves_input request TooManySections n = n
leaves_input request InputTooLong n = n
leaves_input request Stopped n = n

-- the line of a status changes nothing of it
pub input_at_end : (request : Option Request) (P : Type 0) (status result : Status) (old new : Option (List ℕ)) (failed : Type 0) → Ends status old new failed result → (LeavesInput request status → P) → LeavesInput request result → P
input_at_end request P status result old new failed (without_line none same) left l = left l
input_at_end request P status result old new failed (with_line text has all) left l = left l
input_at_end request P status result old new failed (cut text has f part) left l = left (leaves_input request status l)
