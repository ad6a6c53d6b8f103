use Rattle.std.proofs.Common.{◌≡◌, ◌-◌}
use Rattle.file_image.specs.Front.{with_front}
use Rattle.line_files.specs.Ahead.{ahead}
use Rattle.line_files.specs.Found.{hits_seen}
use Rattle.line_files.specs.Runs.{matches}
use Rattle.line_files.proofs.run.add_matches.Given as goal

-- the files so far that match, and those that are still to come, are all
abbrev pub invariant-files : goal.invariant-files
invariant-files l = with_front (hits_seen l.hits.items) (matches l.unit l.name (ahead l.files)) ≡ with_front (hits_seen l.initial.hits.items) (matches l.unit l.name (ahead l.initial.files))

abbrev pub decreases-files : goal.decreases-files
decreases-files l = l.files.end - l.files.next
