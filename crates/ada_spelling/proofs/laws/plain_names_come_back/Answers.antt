use Rattle.ada_spelling.proofs.PlainLaws.{come_back}
use Rattle.ada_spelling.proofs.laws.plain_names_come_back.Goals as goal

pub returns : goal.returns
returns c = come_back
