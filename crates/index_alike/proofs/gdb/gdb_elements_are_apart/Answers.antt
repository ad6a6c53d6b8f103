use Rattle.index_alike.proofs.GdbApart.{elements_apart, numbers_apart}
use Rattle.index_alike.proofs.gdb.gdb_elements_are_apart.Goals as goal

pub returns-clause-numbers : goal.returns-clause-numbers
returns-clause-numbers c = numbers_apart

pub returns-clause-elements : goal.returns-clause-elements
returns-clause-elements c = elements_apart
