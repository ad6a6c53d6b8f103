use Rattle.debugnames_read.specs.Abbreviations.{abbreviations_in}
use Rattle.debugnames_read.specs.Known.{found_seen}
use Rattle.debugnames_read.specs.Names.{tables_of}
use Rattle.debugnames_read.specs.Values.{kept_seen}
use Rattle.debugnames_read.proofs.EntryLaws.{reads_hit}
use Rattle.debugnames_read.proofs.names.IndexTables.entry_with.Goals as goal

pub returns-clause-value : goal.returns-clause-value
returns-clause-value c = reads_hit (tables_of c.args.self.now) (abbreviations_in (tables_of c.args.self.now).abbreviations) c.args.code c.args.cursor.now c.read.new.cursor (found_seen c.in_ok-found.found) (kept_seen c.in_ok-attributes.attributes) c.in_ok-found.ensures c.in_ok-attributes.ensures.value c.hit.result c.hit.ensures
