-- The build-id of a program (System V gABI, chapter 5, "Note Section"; GNU ld, "--build-id").
use Rattle.std.specs.Prelude.{ℕ, ◌/◌, ◌%◌, ◌≤◌, ◌&&◌, nat_le, ◌==◌, if◌then◌else◌, List, [], ◌∷◌, ◌++◌, length, flat_map, bytes_eq, slice_index, codes, Option, Some, None}
use Rattle.ix_base.specs.Reading.{bytes, input, number, ◌>>=◌}
use Rattle.index_model.specs.Layout.{ended, u32_bytes}
use Rattle.index_model.specs.Sections.{Section, section_bytes}

-- a build-id has 1 to 64 bytes
pub record IsBuildId (id : List ℕ) : Type 0 where
  pub some : 1 ≤ length id
  pub few : length id ≤ 64

-- what a note with a build-id has behind its two lengths: its type, NT_GNU_BUILD_ID, and its owner's name
abbrev pub build_id_note : List ℕ
build_id_note = u32_bytes 3 ++ ended (codes "GNU")

-- the build-id of the note that the bytes begin with: the length of its owner's name, that of the id, its type, the name, and the id
unfoldable pub build_id_in : List ℕ → Option (List ℕ)
build_id_in note = do
  owner ← number 4 (input note 0)
  size ← number 4 owner.1
  front ← bytes 8 size.1
  id ← bytes size.0 front.1
  if owner.0 == 4 && bytes_eq front.0 build_id_note && nat_le 1 size.0 && nat_le size.0 64 then Some id.0 else None

-- the build-id of a program with these sections; of its notes the first alone is read
abbrev pub build_id_of : List Section → Option (List ℕ)
build_id_of sections = build_id_in (section_bytes sections (codes ".note.gnu.build-id"))

-- ---- the name of an index that is kept by it

-- the hexadecimal digits, in lower case
abbrev pub hex_digits : List ℕ
hex_digits = codes "0123456789abcdef"

-- the two hexadecimal digits of a byte
abbrev pub two_digits : ℕ → List ℕ
two_digits byte = slice_index hex_digits (byte / 16) ∷ slice_index hex_digits (byte % 16) ∷ []

-- what stands before all names of a store, the digits of the id, and `.gdb-index`
unfoldable pub cache_name : List ℕ → List ℕ → List ℕ
cache_name store id = store ++ flat_map two_digits id ++ codes ".gdb-index"
