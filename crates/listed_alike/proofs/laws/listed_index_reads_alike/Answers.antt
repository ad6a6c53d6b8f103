use Rattle.listed_alike.proofs.ListedEntries.{alike_8, alike_9}
use Rattle.listed_alike.proofs.laws.listed_index_reads_alike.Goals as goal

pub returns-clause-version_8 : goal.returns-clause-version_8
returns-clause-version_8 c = alike_8

pub returns-clause-version_9 : goal.returns-clause-version_9
returns-clause-version_9 c = alike_9
