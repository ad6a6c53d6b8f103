use Rattle.std.proofs.Common.{refl}
use Rattle.cxx_spelling.specs.Spelling.{gdb_spelling}
use Rattle.cxx_spelling.specs.Translation.{translation, run}
use Rattle.cxx_spelling.proofs.vectors.kept.Goals as goal

pub returns : goal.returns
unfolding gdb_spelling translation run
returns c = record {
  shift = refl;
  function_type = refl;
  no_argument = refl;
  no_last_argument = refl;
  destructor = refl;
  other_operator = refl;
  lambda = refl;
  expression = refl;
}
