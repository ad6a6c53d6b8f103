-- Entries of tables, as the definitions see them.
use Rattle.std.specs.Prelude.{ℕ, length, Result, Ok, Err}
use Rattle.ix_base.specs.Reading.{Input}
use Rattle.line_files.specs.declared.header.LineHeader.{LineHeader}
use Rattle.line_files.specs.declared.source.ListedPath.{ListedPath}
use Rattle.line_files.specs.declared.tables.Layout.{Layout}
use Rattle.reach_model.specs.LineTables as meant

-- the entry
abbrev pub entry_seen : ListedPath → meant.FileEntry
entry_seen e = record { name = e.name.now; dir = e.dir }

-- the layout
abbrev pub layout_seen : Layout → meant.Layout
layout_seen l = record { formats = l.formats.items; count = l.count }

-- the place behind what is read
abbrev pub place_behind : {A : Type 0} → Result (A × Input) ℕ → Result Input ℕ
place_behind (Ok x) = Ok x.1
place_behind (Err code) = Err code

-- the place behind the directories
abbrev pub directories_end : Input → Result Input ℕ
directories_end i = place_behind (meant.up_to_end (length i.rest) meant.old_directory i)

-- the header
abbrev pub header_seen : LineHeader → meant.Header
header_seen h = record { version = h.version; wide = h.wide; tables = h.tables }
