-- How a command ends whose file wasn't read.
use Rattle.ix_base.specs.declared.or_memory.OrMemory.{OrMemory}
use Rattle.ix_base.specs.declared.or_memory.OrMemory.TheVariants.{Cause, Memory}
use Rattle.command_base.specs.declared.file.Unread.{Unread}
use Rattle.command_base.specs.declared.file.Unread.TheVariants.{Fault, TooBig}
use Rattle.command_base.specs.declared.status.Status.{Status}
use Rattle.command_base.specs.declared.status.Status.TheVariants.{ReadFault, FileTooBig, NoMemory}

abbrev pub stop_status : OrMemory Unread → Status
stop_status (Cause Fault) = ReadFault
stop_status (Cause TooBig) = FileTooBig
stop_status Memory = NoMemory
