use Rattle.std.proofs.Common.{◌≡◌, [], drop}
use Rattle.reach_model.specs.LineTables.{new_entry}
use Rattle.line_files.specs.Entries.{entry_seen}
use Rattle.line_files.proofs.source.PathSections.entry.Given as goal

-- what the entry says so far, and what its other values say, is what all say
abbrev pub invariant-loop-format : goal.invariant-loop-format
invariant-loop-format l = new_entry l.self.sections.now l.self.wide (drop l.format-index l.formats) (entry_seen l.entry) l.cursor ≡ new_entry l.self.sections.now l.self.wide l.formats (record { name = []; dir = 0 }) l.initial.cursor
