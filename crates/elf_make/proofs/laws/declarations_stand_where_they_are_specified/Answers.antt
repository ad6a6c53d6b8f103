use Rattle.elf_make.proofs.Declarations.{declarations_stand}
use Rattle.elf_make.proofs.laws.declarations_stand_where_they_are_specified.Goals as goal

pub returns : goal.returns
returns c = declarations_stand
