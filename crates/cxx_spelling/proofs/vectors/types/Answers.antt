use Rattle.std.proofs.Common.{refl}
use Rattle.cxx_spelling.specs.Spelling.{gdb_spelling}
use Rattle.cxx_spelling.specs.Translation.{translation, run}
use Rattle.cxx_spelling.proofs.vectors.types.Goals as goal

pub returns : goal.returns
unfolding gdb_spelling translation run
returns c = record { unsigned_alone = refl; words_in_order = refl; argument = refl; qualifiers_behind = refl; lists = refl; no_name = refl }
