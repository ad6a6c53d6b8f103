use Rattle.std.proofs.Common.{◌≡◌, ◌-◌, [], length}
use Rattle.reach_model.specs.LineTables.{formats}
use Rattle.line_files.proofs.formats.read_formats.Given as goal

-- the formats so far, and those that are still to come, are all
abbrev pub invariant-formats : goal.invariant-formats
invariant-formats l = record {
  count : length l.formats.items ≡ l.counter;
  all : formats (l.count - l.counter) l.formats.items l.cursor ≡ formats l.count [] l.initial.cursor;
}
