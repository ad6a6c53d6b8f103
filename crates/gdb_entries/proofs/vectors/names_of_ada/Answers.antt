use Rattle.std.proofs.Common.{refl}
use Rattle.gdb_entries.specs.MadeFile.{ada_names}
use Rattle.gdb_entries.proofs.Opened.{all_defs}
use Rattle.gdb_entries.proofs.vectors.names_of_ada.Goals as goal

pub returns : goal.returns
unfolding all_defs ada_names
returns c = refl
