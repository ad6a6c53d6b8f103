use Rattle.std.proofs.Common.{◌≡◌, ◌-◌}
use Rattle.reach_model.specs.LineTables.{old_directory, up_to_end}
use Rattle.line_files.specs.Entries.{directories_end, place_behind}
use Rattle.line_files.proofs.tables.pass_directories.Given as goal

-- behind the directories that are left is behind all
abbrev pub invariant-directories : goal.invariant-directories
invariant-directories l = place_behind (up_to_end (l.end - l.counter) old_directory l.cursor) ≡ directories_end l.initial.cursor
