use Rattle.std.proofs.Common.{refl}
use Rattle.std.specs.Fmt.{digits}
use Rattle.cxx_spelling.specs.Spelling.{gdb_spelling}
use Rattle.cxx_spelling.specs.Translation.{translation, run}
use Rattle.cxx_spelling.proofs.vectors.characters.Goals as goal

pub returns : goal.returns
unfolding gdb_spelling translation run digits
returns c = record {
  codes_of = refl;
  operands = refl;
}
