-- The sections of an ELF file of 64 bits (System V gABI, chapters 4 and 5).
use Rattle.std.specs.Prelude.{ℕ, zero, suc, ◌+◌, ◌*◌, ◌-◌, Bool, not, ◌&&◌, ◌||◌, nat_lt, nat_le, nat_eq, bit_and, ◌==◌, if◌then◌else◌, List, [], ◌∷◌, length, take, drop, bytes_eq, codes, find, Option, Result, Ok, unwrap_or, option_map}
use Rattle.std.specs.List.{enumerate_from, starts_with}
use Rattle.byteorder.specs.Endian.{little_number}
use Rattle.ix_base.specs.declared.fault.Fault.{Fault}
use Rattle.ix_base.specs.declared.code.TheConstants.{NOT_ELF, ELF_KIND, SECTION_TABLE, COMPRESSED, NO_DEBUG_INFO}
use Rattle.ix_base.specs.Reading.{before_zero}
use Rattle.index_model.specs.Meaning.{◌>>=◌, ◌>>◌, fault, holds_or, some_or}

-- the number of n bytes that stands at a place
unfoldable pub field : ℕ → ℕ → List ℕ → ℕ
field n place bytes = little_number n (drop place bytes)

-- the len bytes from a place on
abbrev pub bytes_from : ℕ → ℕ → List ℕ → List ℕ
bytes_from place len bytes = take len (drop place bytes)

-- whether the bytes begin with these
abbrev pub begins_with : List ℕ → List ℕ → Bool
begins_with start bytes = starts_with nat_eq bytes start

-- ---- section headers

-- what a section header says
pub record Header : Type 0 where
  pub name : ℕ
  pub kind : ℕ
  pub flags : ℕ
  pub at : ℕ
  pub size : ℕ
  pub link : ℕ

-- the section header in 64 bytes
unfoldable pub header : List ℕ → Header
header bytes = record { name = field 4 0 bytes; kind = field 4 4 bytes; flags = field 8 8 bytes; at = field 8 24 bytes; size = field 8 32 bytes; link = field 4 40 bytes }

-- where the table of section headers begins
abbrev pub table_at : List ℕ → ℕ
table_at f = field 8 40 f

-- the header of the section with this index
unfoldable pub header_at : List ℕ → ℕ → Header
header_at f i = header (bytes_from (table_at f + 64 * i) 64 f)

-- How many sections there are. Where the field is 0, the size of section 0 says it.
unfoldable pub section_count : List ℕ → ℕ
section_count f = if table_at f == 0 then 0 else if field 2 60 f == 0 then (header_at f 0).size else field 2 60 f

-- The index of the section that holds the names. Where the field is FFFF, the link of section 0 says it.
unfoldable pub names_index : List ℕ → ℕ
names_index f = if field 2 62 f == 0xFFFF then (header_at f 0).link else field 2 62 f

-- the headers of n sections from an index on
unfoldable pub headers_from : List ℕ → ℕ → ℕ → List Header
headers_from f i zero = []
headers_from f i (suc n) = header_at f i ∷ headers_from f (i + 1) n

-- a section of type null or no bits, or of no bytes, is empty
abbrev pub is_empty : Header → Bool
is_empty h = h.kind == 0 || h.kind == 8 || h.size == 0

-- whether the bytes of a section lie in the file
abbrev pub fits : List ℕ → Header → Bool
fits f h = is_empty h || nat_le (h.at + h.size) (length f)

-- the bytes of a section
abbrev pub content : List ℕ → Header → List ℕ
content f h = if is_empty h then [] else bytes_from h.at h.size f

-- section 0 is empty, whatever its header says
abbrev pub names_fit : List ℕ → Bool
names_fit f = names_index f == 0 || fits f (header_at f (names_index f))

-- the bytes that hold the names
abbrev pub names : List ℕ → List ℕ
names f = if names_index f == 0 then [] else content f (header_at f (names_index f))

-- ---- sections

-- a section: its name, its flags and its bytes
pub record Section : Type 0 where
  pub name : List ℕ
  pub flags : ℕ
  pub content : List ℕ

-- the section at an index: its bytes lie in the file, and its name has an end
unfoldable pub section_from : List ℕ → ℕ → Header → Result Section Fault
section_from f i h = do
  holds_or (fits f h) (fault SECTION_TABLE i)
  name ← some_or (before_zero (drop h.name (names f))) (fault SECTION_TABLE i)
  Ok (record { name = name; flags = h.flags; content = content f h })

-- the sections at the indexes from i on
unfoldable pub sections_from : List ℕ → ℕ → List Header → Result (List Section) Fault
sections_from f i [] = Ok []
sections_from f i (h ∷ hs) = do
  first ← section_from f i h
  others ← sections_from f (i + 1) hs
  Ok (first ∷ others)

-- the section is compressed: a debug section by its flag, or another by its name
abbrev pub is_compressed : Section → Bool
is_compressed s = (not (bit_and s.flags 0x800 == 0) && begins_with (codes ".debug_") s.name) || begins_with (codes ".zdebug_") s.name

-- none of the sections at the indexes from i on is compressed
unfoldable pub none_compressed : ℕ → List Section → Result (record {}) Fault
none_compressed i [] = Ok (record {})
none_compressed i (s ∷ ss) = holds_or (not (is_compressed s)) (fault COMPRESSED i) >>= λ _. none_compressed (i + 1) ss

-- the bytes of the first section of this name; none, where there is no such section
abbrev pub section_bytes : List Section → List ℕ → List ℕ
section_bytes ss name = unwrap_or (option_map (λ s. s.content) (find (λ s. bytes_eq s.name name) ss)) []

-- The index of the first section of this name, if there is one. Section 0 has no name.
abbrev pub index_named : List Section → List ℕ → Option ℕ
index_named ss name = option_map (λ e. e.0) (find (λ e. bytes_eq e.1.name name) (enumerate_from 1 ss))

-- ---- the file

-- the first four bytes of an ELF file
abbrev pub magic : List ℕ
magic = 0x7F ∷ 0x45 ∷ 0x4C ∷ 0x46 ∷ []

-- an ELF file of 64 bits with the lowest byte first, that is an executable or a shared object
unfoldable pub ident : List ℕ → Result (record {}) Fault
ident f = do
  holds_or (nat_le 64 (length f) && begins_with magic f) (fault NOT_ELF 0)
  holds_or (field 1 4 f == 2) (fault ELF_KIND 4)
  holds_or (field 1 5 f == 1) (fault ELF_KIND 5)
  holds_or (field 2 16 f == 2 || field 2 16 f == 3) (fault ELF_KIND 16)

-- the table of the section headers and the names' section lie in the file
unfoldable pub table_fits : List ℕ → Result (record {}) Fault
table_fits f = do
  holds_or (field 2 58 f == 64) (fault SECTION_TABLE 0)
  holds_or (nat_le (table_at f + 64 * section_count f) (length f)) (fault SECTION_TABLE 0)
  holds_or (nat_lt (names_index f) (section_count f)) (fault SECTION_TABLE 0)
  holds_or (names_fit f) (fault SECTION_TABLE 0)

-- the sections of the file behind section 0, or its first fault
unfoldable pub sections_of : List ℕ → Result (List Section) Fault
sections_of f = do
  ident f
  table_fits f
  ss ← sections_from f 1 (headers_from f 1 (section_count f - 1))
  none_compressed 1 ss
  holds_or (nat_lt 0 (length (section_bytes ss (codes ".debug_info")))) (fault NO_DEBUG_INFO 0)
  Ok ss
