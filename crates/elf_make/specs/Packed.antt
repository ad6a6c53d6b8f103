-- A 64-bit ELF file put together from sections (System V gABI, chapters "ELF Header" and "Sections").
use Rattle.std.specs.Prelude.{ℕ, ◌+◌, ◌-◌, ◌%◌, List, [], ◌∷◌, ◌++◌, length, replicate, codes}
use Rattle.std.specs.List.{flat_map}
use Rattle.byteorder.specs.Endian.{little_bytes}
use Rattle.elf_make.specs.declared.section.Section.{Section}

-- what a file is made of: its type, and its sections in order
pub record Elf : Type 0 where
  pub kind : ℕ
  pub sections : List Section

-- that many zero bytes
unfoldable pub zeros : ℕ → List ℕ
zeros n = replicate n 0

-- a number of 2, of 4 and of 8 bytes (gABI, "Data Representation": Elf64_Half, Elf64_Word, and Elf64_Xword, Elf64_Off
-- and Elf64_Addr), the lowest byte first
unfoldable pub half : ℕ → List ℕ
half n = little_bytes 2 n

unfoldable pub word : ℕ → List ℕ
word n = little_bytes 4 n

unfoldable pub xword : ℕ → List ℕ
xword n = little_bytes 8 n

-- ---- the parts of the file

-- the bytes of the sections, without gaps
unfoldable pub contents : List Section → List ℕ
contents sections = flat_map (λ s. s.content) sections

-- the names of the sections, each with the zero that ends it (gABI, "String Table")
unfoldable pub names : List Section → List ℕ
names sections = flat_map (λ s. s.name ++ 0 ∷ []) sections

-- the bytes of `.shstrtab`: the empty name, those of the sections, its own
unfoldable pub name_table : List Section → List ℕ
name_table sections = 0 ∷ names sections ++ codes ".shstrtab" ++ 0 ∷ []

-- how many zeros lead from a place to the next multiple of 8
abbrev pub padding : ℕ → ℕ
padding place = (8 - place % 8) % 8

-- ---- where the parts lie

-- the contents lie behind the 64 bytes of the ELF header, and `.shstrtab` behind them
unfoldable pub names_at : List Section → ℕ
names_at sections = 64 + length (contents sections)

-- the place behind `.shstrtab`
unfoldable pub names_end : List Section → ℕ
names_end sections = names_at sections + length (name_table sections)

-- the section headers begin at a multiple of 8
unfoldable pub headers_at : List Section → ℕ
headers_at sections = names_end sections + padding (names_end sections)

-- ---- headers

-- The identification (gABI, "ELF Identification"): the magic number, 64 bits, the lowest byte first, version 1.
unfoldable pub ident : List ℕ
ident = (0x7F ∷ 0x45 ∷ 0x4C ∷ 0x46 ∷ 2 ∷ 1 ∷ 1 ∷ []) ++ zeros 9

-- The ELF header (gABI, "ELF Header", Elf64_Ehdr, each field in its order): a file of this type for x86-64, whose n
-- section headers begin at a place. The last of them is that of the names.
unfoldable pub elf_header : ℕ → ℕ → ℕ → List ℕ
elf_header kind n place =
    ident ++ half kind ++ half 62 ++ word 1
    ++ xword 0 ++ xword 0 ++ xword place ++ word 0
    ++ half 64 ++ half 0 ++ half 0 ++ half 64 ++ half n ++ half (n - 1)

-- A section header (gABI, "Section Header", Elf64_Shdr, each field in its order): where the name stands in
-- `.shstrtab`, the type, the place in the file, the size, and an alignment of 1.
unfoldable pub section_header : ℕ → ℕ → ℕ → ℕ → List ℕ
section_header name kind place size =
    word name ++ word kind ++ xword 0 ++ xword 0
    ++ xword place ++ xword size ++ word 0 ++ word 0 ++ xword 1 ++ xword 0

-- the headers of sections of type 1 (SHT_PROGBITS), whose names and bytes begin at these places
unfoldable pub added_headers : ℕ → ℕ → List Section → List ℕ
added_headers name place [] = []
added_headers name place (s ∷ others) =
    section_header name 1 place (length s.content)
    ++ added_headers (name + length s.name + 1) (place + length s.content) others

-- The section headers: that of section 0, those of the sections, and that of `.shstrtab` of type 3 (SHT_STRTAB).
unfoldable pub section_headers : List Section → List ℕ
section_headers sections =
    zeros 64 ++ added_headers 1 64 sections
    ++ section_header (1 + length (names sections)) 3 (names_at sections) (length (name_table sections))

-- ---- the file

-- the ELF header, the contents, `.shstrtab`, zeros up to a multiple of 8, and the section headers
unfoldable pub packed : Elf → List ℕ
packed elf =
    elf_header elf.kind (length elf.sections + 2) (headers_at elf.sections)
    ++ contents elf.sections ++ name_table elf.sections
    ++ zeros (padding (names_end elf.sections)) ++ section_headers elf.sections
