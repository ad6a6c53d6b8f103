use Rattle.std.proofs.Common.{refl}
use Rattle.cxx_spelling.specs.Spelling.{gdb_spelling}
use Rattle.cxx_spelling.specs.Translation.{translation, run}
use Rattle.cxx_spelling.proofs.vectors.kept_by_16.Goals as goal

pub returns : goal.returns
unfolding gdb_spelling translation run
returns c = record {
  qualified_result = refl;
  pointer_as_result = refl;
  function_as_parameter = refl;
  no_octal_digit = refl;
  no_suffix = refl;
}
