use Rattle.std.proofs.Common.{refl}
use Rattle.cxx_spelling.specs.Spelling.{gdb_spelling}
use Rattle.cxx_spelling.specs.Translation.{translation, run}
use Rattle.cxx_spelling.proofs.vectors.functions.Goals as goal

pub returns : goal.returns
unfolding gdb_spelling translation run
returns c = record {
  no_blank = refl;
  nested = refl;
  class_or_parameter = refl;
  pointers = refl;
}
