use Rattle.index_alike.proofs.GdbBuilt.{alike_8, alike_9}
use Rattle.index_alike.proofs.gdb.gdb_index_reads_alike.Goals as goal

pub returns-clause-version_8 : goal.returns-clause-version_8
returns-clause-version_8 c = alike_8

pub returns-clause-version_9 : goal.returns-clause-version_9
returns-clause-version_9 c = alike_9
