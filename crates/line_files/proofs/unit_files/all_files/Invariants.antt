use Rattle.std.proofs.Common.{◌≡◌, ◌-◌}
use Rattle.file_image.specs.Front.{with_front}
use Rattle.line_files.specs.Ahead.{ahead}
use Rattle.line_files.specs.Found.{files_seen}
use Rattle.line_files.proofs.unit_files.all_files.Given as goal

-- the files so far, and those that are still to come, are all
abbrev pub invariant-files : goal.invariant-files
invariant-files l = with_front (files_seen l.found.items) (ahead l.files) ≡ ahead l.initial.files

abbrev pub decreases-files : goal.decreases-files
decreases-files l = l.files.end - l.files.next
