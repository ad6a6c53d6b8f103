use Rattle.std.proofs.Common.{◌≡◌, ◌-◌, []}
use Rattle.reach_model.specs.LineTables.{entries_at, new_entry, so_many}
use Rattle.line_files.specs.Entries.{place_behind}
use Rattle.line_files.proofs.source.PathSections.pass_entries.Given as goal

-- behind the entries that are left is behind all
abbrev pub invariant-entries : goal.invariant-entries
invariant-entries l = place_behind (so_many (l.layout.count - l.counter) (new_entry l.self.sections.now l.self.wide l.layout.formats.items (record { name = []; dir = 0 })) l.cursor) ≡ place_behind (entries_at l.self.sections.now l.self.wide l.fn.cursor)
