-- The causes of the statuses of a command that asks a table.
use Rattle.command_base.specs.Replies.{CausesOfResult}
use Rattle.command_base.specs.Tables.{CausesOfTable}
use Rattle.command_base.specs.declared.status.Status.{Status}
use Rattle.command_base.specs.declared.status.Status.TheVariants.{Answered, Refused, Usage, ReadFault, StoreFault, WriteFault, NoMemory, IndexRefused, TableRefused, IndexTooLarge, FileTooBig, AlreadyIndexed, TooManySections, InputFault, InputTooLong, Stopped}

-- those of any result
pub causes_of_reply : (writes : Type 0) (status : Status) → CausesOfResult writes status → CausesOfTable writes status
causes_of_reply writes (TableRefused table) c = absurd c
causes_of_reply writes Answered c = c
causes_of_reply writes Refused c = c
causes_of_reply writes Usage c = c
causes_of_reply writes ReadFault c = c
causes_of_reply writes StoreFault c = c
causes_of_reply writes WriteFault c = c
causes_of_reply writes NoMemory c = c
causes_of_reply writes IndexRefused c = c
causes_of_reply writes IndexTooLarge c = c
causes_of_reply writes FileTooBig c = c
causes_of_reply writes AlreadyIndexed c = c
causes_of_reply writes TooManySections c = c
causes_of_reply writes InputFault c = c
causes_of_reply writes InputTooLong c = c
causes_of_reply writes Stopped c = c
