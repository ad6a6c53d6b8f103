use Rattle.index_alike.proofs.NamesFile.{written_names_read_alike}
use Rattle.index_alike.proofs.names.written_names_read_alike.Goals as goal

pub returns : goal.returns
returns c = written_names_read_alike
