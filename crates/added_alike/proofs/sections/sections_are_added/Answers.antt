use Rattle.added_alike.proofs.FileBytes.{sections_of_bytes_are_added}
use Rattle.added_alike.proofs.sections.sections_are_added.Goals as goal

pub returns : goal.returns
returns c = sections_of_bytes_are_added
