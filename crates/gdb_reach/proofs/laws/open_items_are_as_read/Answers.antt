use Rattle.gdb_reach.proofs.AroundLaws.{open_as_read, nothing_unread}
use Rattle.gdb_reach.proofs.laws.open_items_are_as_read.Goals as goal

pub returns-clause-read : goal.returns-clause-read
returns-clause-read c = open_as_read

pub returns-clause-unread : goal.returns-clause-unread
returns-clause-unread c = nothing_unread
