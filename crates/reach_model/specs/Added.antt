-- A program with sections added (System V gABI, chapter 4, "ELF Header", "Sections" and "String Table").
use Rattle.std.specs.Prelude.{ℕ, ◌+◌, ◌*◌, ◌-◌, ◌%◌, Bool, false, ◌||◌, nat_lt, ◌==◌, if◌then◌else◌, List, [], ◌∷◌, ◌++◌, length, take, drop, map, flat_map, replicate, codes, Option, Some, None, option_and_then, unwrap_or}
use Rattle.byteorder.specs.Endian.{little_bytes}
use Rattle.index_model.specs.Layout.{below, ended, u32_bytes, u64_bytes}
use Rattle.index_model.specs.Sections.{Section, bytes_from, field, index_named, names, names_index, section_bytes, section_count, table_at}

-- ---- what is added

-- a section that is added: its name and its bytes
pub record NewSection : Type 0 where
  pub name : List ℕ
  pub content : List ℕ

-- what is added to a program: sections in order, and bytes behind those of `.debug_str`
pub record Addition : Type 0 where
  pub sections : List NewSection
  pub strings : Option (List ℕ)

-- ---- bytes

-- the bytes with a number of n bytes at a place, the lowest byte first
unfoldable pub put : ℕ → ℕ → ℕ → List ℕ → List ℕ
put n place number bytes = take place bytes ++ little_bytes n number ++ drop (place + n) bytes

-- how many zeros lead from a place to the next multiple of 8
abbrev pub padding : ℕ → ℕ
padding place = (8 - place % 8) % 8

-- the bytes with zeros up to a multiple of 8
unfoldable pub padded : List ℕ → List ℕ
padded bytes = bytes ++ replicate (padding (length bytes)) 0

-- the bytes with pieces behind, each from the next multiple of 8 on
unfoldable pub with_pieces : List ℕ → List (List ℕ) → List ℕ
with_pieces bytes [] = bytes
with_pieces bytes (piece ∷ others) = with_pieces (padded bytes ++ piece) others

-- ---- numbers of sections, and indexes (gABI, "Sections": from FF00 on they don't stand in the ELF header, but in section 0)

abbrev pub reserved : ℕ
reserved = 0xFF00

-- e_shnum, and the size of section 0
abbrev pub count_field : ℕ → ℕ
count_field n = if nat_lt n reserved then n else 0

abbrev pub count_beside : ℕ → ℕ
count_beside n = if nat_lt n reserved then 0 else n

-- e_shstrndx, and the link of section 0
abbrev pub index_field : ℕ → ℕ
index_field i = if nat_lt i reserved then i else 0xFFFF

abbrev pub index_beside : ℕ → ℕ
index_beside i = if nat_lt i reserved then 0 else i

-- ---- section headers

-- the header of a section that has bytes: type 1 (SHT_PROGBITS) where it was null or no bits
unfoldable pub with_bits : List ℕ → List ℕ
with_bits header = if field 4 4 header == 0 || field 4 4 header == 8 then put 4 4 1 header else header

-- the header of a section whose bytes were placed anew: they have no alignment
unfoldable pub moved : ℕ → ℕ → List ℕ → List ℕ
moved place size header = put 8 48 1 (put 8 32 size (put 8 24 place (with_bits header)))

-- the header of section 0, by the number of sections and the index of the names' section
unfoldable pub first_header : ℕ → ℕ → List ℕ → List ℕ
first_header count index header = put 4 40 (index_beside index) (put 8 32 (count_beside count) header)

-- the header of an added section of type 1 and alignment 4, each field in its order (Elf64_Shdr)
unfoldable pub new_header : ℕ → ℕ → ℕ → List ℕ
new_header name place size =
    u32_bytes name ++ u32_bytes 1 ++ u64_bytes 0 ++ u64_bytes 0
    ++ u64_bytes place ++ u64_bytes size ++ u32_bytes 0 ++ u32_bytes 0 ++ u64_bytes 4 ++ u64_bytes 0

-- The headers of added sections. The name of the first begins at a place of the names' section, and its bytes at the next multiple
-- of 8 from a place of the file on.
unfoldable pub new_headers : ℕ → ℕ → List NewSection → List ℕ
new_headers name place [] = []
new_headers name place (s ∷ others) =
    let start = place + padding place in
    new_header name start (length s.content) ++ new_headers (name + length s.name + 1) (start + length s.content) others

-- ---- the file

abbrev pub debug_str : List ℕ
debug_str = codes ".debug_str"

-- whether the index is there and is this one
abbrev pub is_at : ℕ → Option ℕ → Bool
is_at i None = false
is_at i (Some j) = j == i

-- strings for a program without `.debug_str` are such a section
abbrev pub strings_alone : Option ℕ → Option (List ℕ) → List NewSection
strings_alone (Some i) strings = []
strings_alone None None = []
strings_alone None (Some strings) = record { name = debug_str; content = strings } ∷ []

-- bytes that grow, if they are there
abbrev pub grown : Option ℕ → List ℕ → List (List ℕ)
grown None bytes = []
grown (Some i) bytes = bytes ∷ []

-- a program file, its sections, and what is added
module _ (file : List ℕ) (sections : List Section) (addition : Addition) where
  -- where strings are added, the index of the `.debug_str` that gets them, if the program has one
  unfoldable pub strings_index : Option ℕ
  strings_index = option_and_then (λ strings. index_named sections debug_str) addition.strings

  -- the sections that are added
  unfoldable pub new_sections : List NewSection
  new_sections = addition.sections ++ strings_alone strings_index addition.strings

  -- how many sections there are then
  abbrev pub new_count : ℕ
  new_count = section_count file + length new_sections

  -- their names, each with the zero that ends it
  unfoldable pub new_names : List ℕ
  new_names = flat_map (λ s. ended s.name) new_sections

  -- whether the names stand in the `.debug_str` that gets the strings
  abbrev pub shares : Bool
  shares = is_at (names_index file) strings_index

  -- what comes behind the bytes of `.debug_str`
  unfoldable pub more_strings : List ℕ
  more_strings = unwrap_or addition.strings [] ++ (if shares then new_names else [])

  -- the bytes of `.debug_str` then
  unfoldable pub grown_strings : List ℕ
  grown_strings = section_bytes sections debug_str ++ more_strings

  -- the bytes of the names' section then, unless it is that `.debug_str`
  unfoldable pub grown_names : List ℕ
  grown_names = names file ++ new_names

  -- where the names of added sections begin in the names' section
  unfoldable pub names_start : ℕ
  names_start = length (names file) + (if shares then length (unwrap_or addition.strings []) else 0)

  -- ---- the pieces behind the program: `.debug_str` with the strings, the added sections, and the names' section with their names

  unfoldable pub string_pieces : List (List ℕ)
  string_pieces = grown strings_index grown_strings

  unfoldable pub section_pieces : List (List ℕ)
  section_pieces = map (λ s. s.content) new_sections

  unfoldable pub name_pieces : List (List ℕ)
  name_pieces = if shares then [] else grown_names ∷ []

  unfoldable pub body : List ℕ
  body = with_pieces file (string_pieces ++ section_pieces ++ name_pieces)

  -- ---- where they begin

  unfoldable pub strings_at : ℕ
  strings_at = length (padded file)

  -- the place behind `.debug_str`
  unfoldable pub new_sections_from : ℕ
  new_sections_from = length (with_pieces file string_pieces)

  unfoldable pub names_at : ℕ
  names_at = length (padded (with_pieces file (string_pieces ++ section_pieces)))

  unfoldable pub headers_at : ℕ
  headers_at = length (padded body)

  -- ---- section headers

  -- the header of the program's section at an index
  unfoldable pub old_header : ℕ → List ℕ
  old_header i =
      let header = bytes_from (table_at file + 64 * i) 64 file in
      if i == 0 then first_header new_count (names_index file) header else
      if is_at i strings_index then moved strings_at (length grown_strings) header else
      if i == names_index file then moved names_at (length grown_names) header else header

  unfoldable pub old_headers : List ℕ
  old_headers = flat_map old_header (below (section_count file))

  -- the program, the pieces, and the headers of its sections and of those that are added; the ELF header says where these are
  unfoldable pub added : List ℕ
  added =
      put 2 62 (index_field (names_index file)) (put 2 60 (count_field new_count) (put 8 40 headers_at (
      padded body ++ old_headers ++ new_headers names_start new_sections_from new_sections)))
