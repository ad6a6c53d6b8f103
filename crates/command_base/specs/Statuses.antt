-- The numbers of the statuses.
use Rattle.std.specs.Prelude.{ℕ}
use Rattle.command_base.specs.declared.status.Status.{Status}
use Rattle.command_base.specs.declared.status.Status.TheVariants.{Answered, Refused, Usage, ReadFault, StoreFault, WriteFault, InputFault, NoMemory, IndexRefused, TableRefused, IndexTooLarge, FileTooBig, AlreadyIndexed, TooManySections, InputTooLong, Stopped}
use Rattle.command_base.specs.declared.status.RefusedTable.TheVariants.{Addresses, Lines}

abbrev pub status_code : Status → ℕ
status_code Answered = 0
status_code Refused = 1
status_code Usage = 2
status_code ReadFault = 3
status_code StoreFault = 4
status_code WriteFault = 5
status_code InputFault = 6
status_code NoMemory = 7
status_code IndexRefused = 8
status_code IndexTooLarge = 9
status_code FileTooBig = 10
status_code AlreadyIndexed = 12
status_code TooManySections = 13
status_code (TableRefused Addresses) = 14
status_code (TableRefused Lines) = 15
status_code InputTooLong = 11
status_code Stopped = 7
