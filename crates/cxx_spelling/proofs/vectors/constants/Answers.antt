use Rattle.std.proofs.Common.{refl}
use Rattle.cxx_spelling.specs.Spelling.{gdb_spelling}
use Rattle.cxx_spelling.specs.Translation.{translation, run}
use Rattle.cxx_spelling.proofs.vectors.constants.Goals as goal

pub returns : goal.returns
unfolding gdb_spelling translation run
returns c = record {
  truths = refl;
  suffixes = refl;
  types_that_stay = refl;
  characters = refl;
  addresses = refl;
  floating = refl;
  numbers_for_truths = refl;
  templates = refl;
  conversions = refl;
}
