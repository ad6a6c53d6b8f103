use Rattle.added_alike.proofs.Named.{added_sections_are_found, named_sections_keep_their_bytes}
use Rattle.added_alike.proofs.sections.added_sections_are_found.Goals as goal

pub returns-clause-kept : goal.returns-clause-kept
returns-clause-kept c = named_sections_keep_their_bytes

pub returns-clause-found : goal.returns-clause-found
returns-clause-found c = added_sections_are_found
