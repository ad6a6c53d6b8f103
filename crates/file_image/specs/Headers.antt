-- The headers of sections, and the table of them.
use Rattle.std.specs.Prelude.{◌≡◌, ◌+◌, ◌*◌, ◌≤◌, ◌<◌, ℕ, List, length, drop, Result, Ok, Err}
use Rattle.ix_base.specs.declared.fault.Fault.{Fault}
use Rattle.ix_base.specs.declared.limits.TheConstants.{MAX_FILE_BYTES}
use Rattle.ix_base.specs.declared.code.TheConstants.{SECTION_TABLE}
use Rattle.index_model.specs.Meaning.{◌>>◌, fault}
use Rattle.index_model.specs.Sections.{Header as SectionHeader, bytes_from, field, ident, table_at, section_count, names as names_of, table_fits}
use Rattle.file_image.specs.declared.section_header.Header.{Header}

-- the section header in 64 bytes, each field in its order (System V gABI, chapter 4, "Sections", Elf64_Shdr)
unfoldable pub section_header : List ℕ → Header
section_header bytes = record {
  name = field 4 0 bytes;
  kind = field 4 4 bytes;
  flags = field 8 8 bytes;
  address = field 8 16 bytes;
  at = field 8 24 bytes;
  size = field 8 32 bytes;
  link = field 4 40 bytes;
  info = field 4 44 bytes;
  alignment = field 8 48 bytes;
  entry_size = field 8 56 bytes;
}

-- the header of the section with this index
abbrev pub section_header_at : List ℕ → ℕ → Header
section_header_at file i = section_header (bytes_from (table_at file + 64 * i) 64 file)

-- a program file whose table of section headers lies in it, or its first fault so far
unfoldable pub with_table : List ℕ → Result (List ℕ) Fault
with_table file = do
  ident file
  table_fits file
  Ok file

-- what readers of sections ask of the header
abbrev pub header_of : Header → SectionHeader
header_of h = record { name = h.name; kind = h.kind; flags = h.flags; at = h.at; size = h.size; link = h.link }

-- the table or the section of the names doesn't lie in the file
abbrev pub IsRefused : List ℕ → Type 0
IsRefused file = table_fits file ≡ Err (fault SECTION_TABLE 0)

-- the bytes of the file from the first section header on, which is there
pub record HasHeaders (file headers : List ℕ) : Type 0 where
  pub some : 0 < table_at file
  pub width : field 2 58 file ≡ 64
  pub first : 64 ≤ length headers
  pub bytes : headers ≡ drop (table_at file) file
  pub long : length headers + table_at file ≡ length file

-- the table of section headers lies in the file, with its count and the bytes of the names
pub record IsTable (file bytes : List ℕ) (n : ℕ) (text : List ℕ) : Type 0 where
  pub fits : table_fits file ≡ Ok (record {})
  pub headers : bytes ≡ drop (table_at file) file
  pub count : n ≡ section_count file
  pub names : text ≡ names_of file

-- the same, in a file within the limit that has an ELF header
pub record IsTableOf (file bytes : List ℕ) (n : ℕ) (text : List ℕ) : Type 0 where
  pub long : 64 ≤ length file
  pub table : IsTable file bytes n text
  pub whole : 64 * n ≤ length bytes
  pub small : length file ≤ MAX_FILE_BYTES
