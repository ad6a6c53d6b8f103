-- What of a table is still to come.
use Rattle.std.specs.Prelude.{◌≡◌, ℕ, ◌-◌, Bool, nat_lt, if◌then◌else◌, List, [], ◌∷◌, Option, Some, None, Result, Ok, Err}
use Rattle.ix_base.specs.declared.fault.Fault.{Fault}
use Rattle.ix_base.specs.Reading.{Input}
use Rattle.index_model.specs.Meaning.{◌>>=◌, at_place}
use Rattle.index_model.specs.Sections.{Section}
use Rattle.reach_model.specs.declared.code.TheConstants.{LINES_FIELDS}
use Rattle.reach_model.specs.LineTables as meant
use Rattle.line_files.specs.declared.files.FilesLeft.{FilesLeft}
use Rattle.line_files.specs.declared.files.FileTableKind.{FileTableKind}
use Rattle.line_files.specs.declared.files.FileTableKind.TheVariants.{UpToEnd, ByFormats}
use Rattle.line_files.specs.declared.found.FileName.{FileName}
use Rattle.line_files.specs.Found.{file_seen}

-- the files that these entries are
abbrev pub with_numbers : ℕ → Result (List meant.FileEntry × Input) ℕ → Result (List meant.FileName) ℕ
with_numbers first es = es >>= λ x. Ok (meant.numbered first x.0)

-- n more entries, or up to the end
abbrev pub entries_left : FileTableKind → List Section → Bool → ℕ → meant.TableReader (List meant.FileEntry)
entries_left UpToEnd ss wide n i = meant.up_to_end n meant.old_file i
entries_left (ByFormats fs) ss wide n i = meant.so_many n (meant.new_entry ss wide fs.items (record { name = []; dir = 0 })) i

-- the files that are left
abbrev pub files_left : FilesLeft → Result (List meant.FileName) ℕ
files_left f = with_numbers f.next (entries_left f.kind f.source.sections.now f.source.wide (f.end - f.next) f.cursor)

-- the same, with the place of the fault
abbrev pub ahead : FilesLeft → Result (List meant.FileName) Fault
ahead f = at_place f.start (files_left f)

-- the entry that is there
abbrev pub some_entry : Result (meant.FileEntry × Input) ℕ → Result (Option meant.FileEntry × Input) ℕ
some_entry e = e >>= λ x. Ok (Some x.0, x.1)

-- the next entry; behind the last there is none
abbrev pub entry_by : FileTableKind → List Section → Bool → Bool → Input → Result (Option meant.FileEntry × Input) ℕ
entry_by UpToEnd ss wide more i = if more then meant.old_file i else Err LINES_FIELDS
entry_by (ByFormats fs) ss wide more i = if more then some_entry (meant.new_entry ss wide fs.items (record { name = []; dir = 0 }) i) else Ok (None, i)

-- the next entry of these files
abbrev pub entry_left : FilesLeft → Result (Option meant.FileEntry × Input) ℕ
entry_left f = entry_by f.kind f.source.sections.now f.source.wide (nat_lt f.next f.end) f.cursor

-- the files that are left are these, or the code is that of what is wrong before them
abbrev pub GivesLeft : ℕ → Result FilesLeft ℕ → Result (List meant.FileName) ℕ → Type 0
GivesLeft start (Ok f) meaning = (meaning ≡ files_left f) × (f.start ≡ start)
GivesLeft start (Err code) meaning = meaning ≡ Err code

-- the files ahead are these, or this is the fault before them
abbrev pub GivesAhead : Result FilesLeft Fault → Result (List meant.FileName) Fault → Type 0
GivesAhead (Ok f) meaning = meaning ≡ ahead f
GivesAhead (Err fault) meaning = meaning ≡ Err fault

-- the call gave the next file, or told that there is none, or the fault
abbrev pub GivesNext : Result (List meant.FileName) Fault → Result (List meant.FileName) Fault → Result (Option FileName) Fault → Type 0
GivesNext old new (Ok (Some f)) = old ≡ (new >>= λ fs. Ok (file_seen f ∷ fs))
GivesNext old new (Ok None) = old ≡ Ok []
GivesNext old new (Err fault) = old ≡ Err fault
