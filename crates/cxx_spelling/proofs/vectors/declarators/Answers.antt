use Rattle.std.proofs.Common.{refl}
use Rattle.cxx_spelling.specs.Spelling.{gdb_spelling}
use Rattle.cxx_spelling.specs.Translation.{translation, run}
use Rattle.cxx_spelling.proofs.vectors.declarators.Goals as goal

pub returns : goal.returns
unfolding gdb_spelling translation run
returns c = record {
  pointers = refl;
  functions = refl;
  no_parameters = refl;
  nested = refl;
  members = refl;
  arrays = refl;
  pointers_to_arrays = refl;
  conversion = refl;
}
