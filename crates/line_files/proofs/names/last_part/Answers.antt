use Rattle.line_files.proofs.NameLaws.{behind_slash, no_slash}
use Rattle.line_files.proofs.names.last_part.Goals as goal

pub returns-in-Some : goal.returns-in-Some
returns-in-Some c = behind_slash c.args.path.now c.in-Some.slash c.in-Some.ensures.0 c.in-Some.ensures.1

pub returns-in-None : goal.returns-in-None
returns-in-None c = no_slash c.args.path.now c.in-None.ensures
