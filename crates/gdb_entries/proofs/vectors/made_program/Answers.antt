use Rattle.std.proofs.Common.{refl}
use Rattle.gdb_entries.specs.MadeFile.{made_file, made_names}
use Rattle.gdb_entries.proofs.Opened.{all_defs}
use Rattle.gdb_entries.proofs.vectors.made_program.Goals as goal

pub returns : goal.returns
unfolding all_defs made_file made_names
returns c = refl
