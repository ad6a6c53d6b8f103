-- The file tables of line headers (DWARF 5, 6.2.4 and 6.2.4.1; DWARF 4, 6.2.4 for versions 2 to 4).
use Rattle.std.specs.Prelude.{ℕ, zero, suc, pos, ◌+◌, ◌-◌, Bool, true, false, not, ◌&&◌, ◌||◌, nat_lt, nat_le, ◌==◌, if◌then◌else◌, List, [], ◌∷◌, ◌++◌, length, drop, map, filter, flat_map, bytes_eq, codes, Option, Some, None, option_and_then, Result, Ok, Err}
use Rattle.std.specs.List.{after_last, enumerate_from, list_any}
use Rattle.ix_base.specs.declared.fault.Fault.{Fault}
use Rattle.ix_base.specs.Reading.{Input, number, uleb, zstr, skip, initial_length, part, input, before_zero}
use Rattle.index_model.specs.Meaning.{◌>>=◌, ◌>>◌, holds_or, some_or, at_place, each, value_of}
use Rattle.index_model.specs.Sections.{Section, section_bytes}
use Rattle.index_model.specs.Forms.{Value, Unsigned, Offset, Str, LineStr, Inline, value_at}
use Rattle.index_model.specs.Attributes.{as_unsigned, read_as}
use Rattle.index_model.specs.Strings.{offset_size, unless_empty}
use Rattle.index_model.specs.Program.{Walked, root_of}
use Rattle.reach_model.specs.declared.line_table.Content.{Content}
use Rattle.reach_model.specs.declared.line_table.Content.TheVariants.{Path, Directory, Other}
use Rattle.reach_model.specs.declared.line_table.Format.{Format}
use Rattle.reach_model.specs.declared.code.TheConstants.{LINES_LENGTH, LINES_VERSION, LINES_FIELDS, LINES_FORM, LINES_PATH}

-- ---- readers

-- a reader in a table: the value and what is left, or the code of what is wrong
abbrev pub TableReader : Type 0 → Type 0
TableReader A = Input → Result (A × Input) ℕ

-- what is read lies in the table, and numbers fit
abbrev pub field : {A : Type 0} → (Input → Option (A × Input)) → TableReader A
field read i = some_or (read i) LINES_FIELDS

-- what f gives of the value, and what is left
abbrev pub with_value : {A B : Type 0} → (A → B) → A × Input → B × Input
with_value f x = (f x.0, x.1)

-- an item in front of others
abbrev pub before : {A : Type 0} → A → Result (List A × Input) ℕ → Result (List A × Input) ℕ
before x (Ok others) = Ok (x ∷ others.0, others.1)
before x (Err code) = Err code

-- where there is one more item, it and those behind it; else the list ends
abbrev pub one_more : {A : Type 0} → Option A × Input → (Input → Result (List A × Input) ℕ) → Result (List A × Input) ℕ
one_more (None, i) later = Ok ([], i)
one_more (Some x, i) later = before x (later i)

-- the items up to the end of a list, of which there are at most n
unfoldable pub up_to_end : {A : Type 0} → ℕ → TableReader (Option A) → TableReader (List A)
up_to_end zero read i = Err LINES_FIELDS
up_to_end (suc n) read i = read i >>= λ x. one_more x (up_to_end n read)

-- n items
unfoldable pub so_many : {A : Type 0} → ℕ → TableReader A → TableReader (List A)
so_many zero read i = Ok ([], i)
so_many (suc n) read i = read i >>= λ x. before x.0 (so_many n read x.1)

-- ---- the tables of versions 2 to 4

-- an entry of a file table: its path, and the number of its directory
pub record FileEntry : Type 0 where
  pub name : List ℕ
  pub dir : ℕ

-- an include directory; an empty one ends the list
abbrev pub old_directory : TableReader (Option (List ℕ))
old_directory i = field zstr i >>= λ text. Ok (with_value unless_empty text)

-- a file, by its path: its directory, and its time and length, which aren't kept; an empty path ends the list
unfoldable pub old_file_named : List ℕ → TableReader (Option FileEntry)
old_file_named [] i = Ok (None, i)
old_file_named (b ∷ bs) i = do
  dir ← field uleb i
  time ← field uleb dir.1
  size ← field uleb time.1
  Ok (Some (record { name = b ∷ bs; dir = dir.0 }), size.1)

-- a file
abbrev pub old_file : TableReader (Option FileEntry)
old_file i = field zstr i >>= λ path. old_file_named path.0 path.1

-- the files behind the directories; each entry takes a byte
unfoldable pub old_files : TableReader (List FileEntry)
old_files i = do
  directories ← up_to_end (length i.rest) old_directory i
  up_to_end (length directories.1.rest) old_file directories.1

-- ---- the tables of version 5

-- whether this is the path
abbrev pub is_path : Content → Bool
is_path Path = true
is_path Directory = false
is_path Other = false

-- whether this is the number of the directory
abbrev pub is_directory : Content → Bool
is_directory Path = false
is_directory Directory = true
is_directory Other = false

-- the content with this code, behind these formats: DW_LNCT_path or DW_LNCT_directory_index; of equal ones the first counts
abbrev pub content_of : List Format → ℕ → Content
content_of earlier code =
    if code == 1 && not (list_any (λ f. is_path f.content) earlier) then Path else
    if code == 2 && not (list_any (λ f. is_directory f.content) earlier) then Directory else Other

-- string, strp, line_strp
abbrev pub is_string_form : ℕ → Bool
is_string_form form = form == 0x08 || form == 0x0E || form == 0x1F

-- data1, data2, data4, data8, udata
abbrev pub is_number_form : ℕ → Bool
is_number_form form = form == 0x0B || form == 0x05 || form == 0x06 || form == 0x07 || form == 0x0F

-- the forms of a content; other contents than path and directory may also be block and data16
abbrev pub is_form_of : Content → ℕ → Bool
is_form_of Path form = is_string_form form
is_form_of Directory form = is_number_form form
is_form_of Other form = is_string_form form || is_number_form form || form == 0x09 || form == 0x1E

-- the format at the front, behind these
unfoldable pub format_behind : List Format → TableReader Format
format_behind earlier i = do
  code ← field uleb i
  form ← field uleb code.1
  let content = content_of earlier code.0
  holds_or (is_form_of content form.0) LINES_FORM
  Ok (record { content = content; form = form.0 }, form.1)

-- these formats, and n more
unfoldable pub formats : ℕ → List Format → TableReader (List Format)
formats zero earlier i = Ok (earlier, i)
formats (suc n) earlier i = do
  f ← format_behind earlier i
  formats n (earlier ++ f.0 ∷ []) f.1

-- the formats of a table, behind their number
unfoldable pub formats_at : TableReader (List Format)
formats_at i = do
  n ← field (number 1) i
  formats n.0 [] n.1

-- how a table is laid out: its formats, and how many entries it has
pub record Layout : Type 0 where
  pub formats : List Format
  pub count : ℕ

-- the layout at the front of a table; without formats there are no entries
unfoldable pub layout_at : TableReader Layout
layout_at i = do
  fs ← formats_at i
  count ← field uleb fs.1
  holds_or (nat_lt 0 (length fs.0) || count.0 == 0) LINES_FIELDS
  Ok (record { formats = fs.0; count = count.0 }, count.1)

-- the value of a form, as of an attribute (7.5.6)
abbrev pub value_in : Bool → ℕ → TableReader Value
value_in wide form i = some_or (value_of (value_at 5 wide form (pos 0) i)) LINES_FIELDS

-- the number that a value of a number form is
abbrev pub number_of : Value → ℕ
number_of (Unsigned n) = n
number_of other = 0

-- the string at an offset of a section
abbrev pub path_at : List ℕ → ℕ → Result (List ℕ) ℕ
path_at bytes place = some_or (before_zero (drop place bytes)) LINES_PATH

module _ (ss : List Section) where
  -- the path that a value of a string form is
  unfoldable pub path_of : Value → Result (List ℕ) ℕ
  path_of (Inline text) = Ok text
  path_of (Str place) = path_at (section_bytes ss (codes ".debug_str")) place
  path_of (LineStr place) = path_at (section_bytes ss (codes ".debug_line_str")) place
  path_of other = Err LINES_PATH

  -- an entry with one more value
  unfoldable pub with_content : Content → Value → FileEntry → Result FileEntry ℕ
  with_content Path v e = path_of v >>= λ name. Ok (record e { name = name })
  with_content Directory v e = Ok (record e { dir = number_of v })
  with_content Other v e = Ok e

module _ (ss : List Section) (wide : Bool) where
  -- an entry by its formats, with what it says so far
  unfoldable pub new_entry : List Format → FileEntry → TableReader FileEntry
  new_entry [] e i = Ok (e, i)
  new_entry (f ∷ fs) e i = do
    v ← value_in wide f.form i
    more ← with_content ss f.content v.0 e
    new_entry fs more v.1

  -- the entries of a table, each with an empty path and directory 0 where it says none
  unfoldable pub entries_at : TableReader (List FileEntry)
  entries_at i = do
    t ← layout_at i
    so_many t.0.count (new_entry t.0.formats (record { name = []; dir = 0 })) t.1

  -- the files behind the directories
  unfoldable pub new_files : TableReader (List FileEntry)
  new_files i = do
    directories ← entries_at i
    entries_at directories.1

-- ---- the table of a unit

-- a file of a table: its index, the number of its directory, and its path
pub record FileName : Type 0 where
  pub index : ℕ
  pub dir : ℕ
  pub name : List ℕ

-- the file with an index
abbrev pub file_at : ℕ × FileEntry → FileName
file_at e = record { index = e.0; dir = e.1.dir; name = e.1.name }

-- the files with indexes from first on
abbrev pub numbered : ℕ → List FileEntry → List FileName
numbered first es = map file_at (enumerate_from first es)

-- How many bytes stand before opcode_base: address_size and segment_selector_size (version 5), header_length, minimum_instruction_length,
-- maximum_operations_per_instruction (from version 4 on), default_is_stmt, line_base and line_range.
abbrev pub size_before_opcodes : ℕ → Bool → ℕ
size_before_opcodes version wide = (if version == 5 then 2 else 0) + offset_size wide + (if nat_le 4 version then 5 else 4)

-- behind the fields of this version and the lengths of the standard opcodes
unfoldable pub behind_fields : ℕ → Bool → Input → Result Input ℕ
behind_fields version wide i = do
  fields ← field (skip (size_before_opcodes version wide)) i
  opcode_base ← field (number 1) fields.1
  lengths ← field (skip (opcode_base.0 - 1)) opcode_base.1
  Ok lengths.1

-- the table at a place of `.debug_line`: whether it has the 64-bit format, and its own bytes
unfoldable pub own_bytes : List ℕ → ℕ → Result (Bool × Input) ℕ
own_bytes lines place = do
  len ← some_or (initial_length (input lines place)) LINES_LENGTH
  own ← some_or (part len.0.length len.1) LINES_LENGTH
  Ok (len.0.wide, own.0)

-- the version at the front of a table's own bytes
unfoldable pub version_at : TableReader ℕ
version_at i = do
  version ← some_or (number 2 i) LINES_VERSION
  holds_or (nat_le 2 version.0 && nat_le version.0 5) LINES_VERSION
  Ok version

-- a table's version, whether it has the 64-bit format, and what stands behind its fields
pub record Header : Type 0 where
  pub version : ℕ
  pub wide : Bool
  pub tables : Input

-- the header at a place of `.debug_line`
unfoldable pub header_at : List ℕ → ℕ → Result Header ℕ
header_at lines place = do
  own ← own_bytes lines place
  version ← version_at own.1
  tables ← behind_fields version.0 own.0 version.1
  Ok (record { version = version.0; wide = own.0; tables = tables })

-- the files behind a header
unfoldable pub files_behind : List Section → Header → Result (List FileName) ℕ
files_behind ss h =
    let old = old_files h.tables >>= λ es. Ok (numbered 1 es.0) in
    let new = new_files ss h.wide h.tables >>= λ es. Ok (numbered 0 es.0) in
    if h.version == 5 then new else old

-- the files of the table at a place of `.debug_line`
unfoldable pub files_at : List Section → ℕ → Result (List FileName) ℕ
files_at ss place = header_at (section_bytes ss (codes ".debug_line")) place >>= files_behind ss

-- sec_offset; in versions 2 and 3 also an unsigned constant, which is the offset
abbrev pub as_line_place : ℕ → Value → Option ℕ
as_line_place version (Offset place) = Some place
as_line_place version v = if nat_le version 3 then as_unsigned v else None

-- stmt_list, of the unit's root (3.1.1)
abbrev pub line_place : Walked → Option ℕ
line_place w = option_and_then (read_as (as_line_place w.unit.version) 0x10) (root_of w)

-- the files of the table at a place, if there is one
abbrev pub files_there : List Section → Option ℕ → Result (List FileName) ℕ
files_there ss None = Ok []
files_there ss (Some place) = files_at ss place

-- the files of a unit's table; the place of a fault is the unit's
unfoldable pub files_of : List Section → Walked → Result (List FileName) Fault
files_of ss w = at_place w.unit.start (files_there ss (line_place w))

-- ---- files by name

-- the path is the name, or what follows its last slash is
abbrev pub is_match : List ℕ → List ℕ → Bool
is_match name path = bytes_eq path name || bytes_eq (after_last (λ b. b == 47) path) name

-- a file, and the number of the unit in whose table it stands
pub record FileHit : Type 0 where
  pub unit : ℕ
  pub file : FileName

-- the files of a unit that match
abbrev pub hits_in : ℕ → List ℕ → List FileName → List FileHit
hits_in number name files = map (λ f. record { unit = number; file = f }) (filter (λ f. is_match name f.name) files)

-- the same, or the unit's fault
unfoldable pub unit_hits : List Section → List ℕ → Walked → Result (List FileHit) Fault
unit_hits ss name w = files_of ss w >>= λ files. Ok (hits_in w.number name files)

-- the files of all units that match, or the fault of the first unit that has one
unfoldable pub hits_of : List Section → List Walked → List ℕ → Result (List FileHit) Fault
hits_of ss ws name = each (unit_hits ss name) ws >>= λ hits. Ok (flat_map (λ found. found) hits)
