use Rattle.file_image.proofs.Named.{named_some, named_none}
use Rattle.file_image.proofs.resolved.content_of.Goals as goal

pub returns-in-Some : goal.returns-in-Some
returns-in-Some c = named_some c.args.found.now c.args.name.now c.in-Some.section.now c.requires c.in-Some.ensures

pub returns-in-None : goal.returns-in-None
returns-in-None c = named_none c.args.found.now c.args.name.now c.in-None.ensures
