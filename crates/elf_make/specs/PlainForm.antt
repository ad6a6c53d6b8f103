-- Entries as the bytes of `.debug_abbrev` and `.debug_info` in one plain form (DWARF 5, 7.5): units of the 32-bit format with addresses of
-- 8 bytes, one table of abbreviations at offset 0 that lists each abbreviation once, and one form for each attribute.
use Rattle.std.specs.Prelude.{ℕ, ◌+◌, List, [], ◌∷◌, ◌++◌, length, flat_map, bytes_eq}
use Rattle.std.specs.List.{enumerate_from}
use Rattle.index_model.specs.Layout.{ended}
use Rattle.index_model.specs.NameIndex.{uleb_bytes}
use Rattle.index_model.specs.Ordered.{distinct, place_of}
use Rattle.elf_make.specs.Packed.{half, word, xword}

-- ---- attributes

-- an attribute with its value
pub data Attribute : Type 0 where
  Name : List ℕ → Attribute
  Language : ℕ → Attribute
  LowPc : ℕ → Attribute
  HighPc : ℕ → Attribute
  External : Attribute
  Declaration : Attribute
  Specification : ℕ → Attribute
  Location : ℕ → Attribute

-- the number of an attribute (7.5.4) and its form (7.5.6), a byte each, since all are below 128: string, data1, addr, data4, flag_present, ref_addr or exprloc
abbrev pub attribute_and_form : Attribute → List ℕ
attribute_and_form (Name text) = 0x03 ∷ 0x08 ∷ []
attribute_and_form (Language number) = 0x13 ∷ 0x0B ∷ []
attribute_and_form (LowPc address) = 0x11 ∷ 0x01 ∷ []
attribute_and_form (HighPc size) = 0x12 ∷ 0x06 ∷ []
attribute_and_form External = 0x3F ∷ 0x19 ∷ []
attribute_and_form Declaration = 0x3C ∷ 0x19 ∷ []
attribute_and_form (Specification offset) = 0x47 ∷ 0x10 ∷ []
attribute_and_form (Location address) = 0x02 ∷ 0x18 ∷ []

-- the bytes of a value; a location is an expression of 9 bytes, DW_OP_addr (03) and the address
abbrev pub value_bytes : Attribute → List ℕ
value_bytes (Name text) = ended text
value_bytes (Language number) = number ∷ []
value_bytes (LowPc address) = xword address
value_bytes (HighPc size) = word size
value_bytes External = []
value_bytes Declaration = []
value_bytes (Specification offset) = word offset
value_bytes (Location address) = 9 ∷ 3 ∷ xword address

-- ---- entries

-- Entries, one behind the other: none; an entry of a tag and attributes without braces, before others; or one with the
-- entries in its braces, before others.
pub data Entries : Type 0 where
  End : Entries
  Plain : ℕ → List Attribute → Entries → Entries
  Braced : ℕ → List Attribute → Entries → Entries → Entries

-- ---- abbreviations

-- a tag, whether there are braces (1) or none (0), and the attributes with their forms up to (0, 0), as bytes (7.5.3)
abbrev pub abbreviation : ℕ → ℕ → List Attribute → List ℕ
abbreviation tag children attributes = uleb_bytes tag ++ children ∷ flat_map attribute_and_form attributes ++ 0 ∷ 0 ∷ []

-- the abbreviations of entries in written order
unfoldable pub abbreviations_of : Entries → List (List ℕ)
abbreviations_of End = []
abbreviations_of (Plain tag attributes others) = abbreviation tag 0 attributes ∷ abbreviations_of others
abbreviations_of (Braced tag attributes inner others) = abbreviation tag 1 attributes ∷ abbreviations_of inner ++ abbreviations_of others

-- each abbreviation once, in order of first use
abbrev pub in_first_use : List (List ℕ) → List (List ℕ)
in_first_use used = distinct bytes_eq used

-- the code of an abbreviation: its place in the table, counted from 1
abbrev pub code_in : List (List ℕ) → List ℕ → ℕ
code_in table used = place_of bytes_eq used table + 1

-- the table: each abbreviation behind its code, and the code 0
unfoldable pub table_bytes : List (List ℕ) → List ℕ
table_bytes table = ended (flat_map (λ row. uleb_bytes (row.0 + 1) ++ row.1) (enumerate_from 0 table))

-- ---- units

-- the code of an entry and its values
abbrev pub entry_bytes : List (List ℕ) → ℕ → ℕ → List Attribute → List ℕ
entry_bytes table tag children attributes = uleb_bytes (code_in table (abbreviation tag children attributes)) ++ flat_map value_bytes attributes

-- the bytes of each entry in written order; a zero, the null entry, stands where braces close
unfoldable pub pieces : List (List ℕ) → Entries → List (List ℕ)
pieces table End = []
pieces table (Plain tag attributes others) = entry_bytes table tag 0 attributes ∷ pieces table others
pieces table (Braced tag attributes inner others) =
    entry_bytes table tag 1 attributes ∷ pieces table inner ++ (0 ∷ []) ∷ pieces table others

-- the bytes of entries, one behind the other
abbrev pub entries_bytes : List (List ℕ) → Entries → List ℕ
entries_bytes table entries = flat_map (λ piece. piece) (pieces table entries)

-- the header of a unit whose entries have so many bytes (7.5.1.1): what follows the length, version 5, type 1 (DW_UT_compile),
-- addresses of 8 bytes, and the table at 0
abbrev pub unit_header : ℕ → List ℕ
unit_header size = word (size + 8) ++ half 5 ++ 1 ∷ 8 ∷ word 0

-- a unit: its header and its entries
unfoldable pub unit_bytes : List (List ℕ) → Entries → List ℕ
unit_bytes table entries =
    let body = entries_bytes table entries in
    unit_header (length body) ++ body
