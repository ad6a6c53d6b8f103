-- Which attribute is read in which forms (DWARF 5, 7.5.4 and 7.5.5). Of two attributes with one number the first counts. One of another form counts as absent.
use Rattle.std.specs.Prelude.{ℕ, pos, Bool, true, false, ◌||◌, nat_le, ◌==◌, if◌then◌else◌, find, is_some, Option, Some, None, option_map, option_and_then}
use Rattle.std.specs.Option.{option_or}
use Rattle.index_model.specs.Forms.{Value, Addr, Unsigned, Str, LineStr, StrIndex, AddrIndex, Near, Far, Signature, Offset, RangeIndex, Signed, Flag, Inline}
use Rattle.index_model.specs.Walk.{Item}

-- the value of the first attribute with this number
abbrev pub attribute : ℕ → Item → Option Value
attribute n d = option_map (λ v. v.1) (find (λ v. v.0 == n) d.values)

-- the value of the first attribute with this number; none, where its form isn't read
abbrev pub read_as : {A : Type 0} → (Value → Option A) → ℕ → Item → Option A
read_as form n d = option_and_then form (attribute n d)

-- ---- forms

-- string, strp, line_strp, strx, strx1 to strx4
abbrev pub as_text : Value → Option Value
as_text (Inline s) = Some (Inline s)
as_text (Str o) = Some (Str o)
as_text (LineStr o) = Some (LineStr o)
as_text (StrIndex i) = Some (StrIndex i)
as_text other = None

-- addr, addrx, addrx1 to addrx4
abbrev pub as_address : Value → Option Value
as_address (Addr a) = Some (Addr a)
as_address (AddrIndex i) = Some (AddrIndex i)
as_address other = None

-- an unsigned constant: data1 to data8, udata, or an sdata or implicit_const that isn't negative
abbrev pub as_unsigned : Value → Option ℕ
as_unsigned (Unsigned n) = Some n
as_unsigned (Signed (pos n)) = Some n
as_unsigned other = None

-- where a range ends: at an address, or so many bytes behind its low end
pub data High : Type 0 where
  EndsAt : Value → High
  Bytes : ℕ → High

-- an address, or an unsigned constant
abbrev pub as_high : Value → Option High
as_high v = option_or (option_map EndsAt (as_address v)) (option_map Bytes (as_unsigned v))

-- flag_present, or flag with a byte other than 0
abbrev pub is_set : Option Value → Bool
is_set (Some (Flag b)) = b
is_set other = false

-- a reference: its number, and whether it counts from the unit's first byte or from that of `.debug_info`
pub record Reference : Type 0 where
  pub target : ℕ
  pub near : Bool

-- ref1, ref2, ref4, ref8, ref_udata, ref_addr
abbrev pub as_reference : Value → Option Reference
as_reference (Near n) = Some (record { target = n; near = true })
as_reference (Far n) = Some (record { target = n; near = false })
as_reference other = None

-- ref_sig8
abbrev pub as_signature : Value → Option ℕ
as_signature (Signature s) = Some s
as_signature other = None

-- sec_offset
abbrev pub as_offset : Value → Option ℕ
as_offset (Offset o) = Some o
as_offset other = None

-- sec_offset; in version 5 also rnglistx; in versions 2 and 3 also an unsigned constant, which is the offset
abbrev pub as_ranges : ℕ → Value → Option Value
as_ranges version (Offset o) = Some (Offset o)
as_ranges version (RangeIndex i) = if version == 5 then Some (RangeIndex i) else None
as_ranges version v = if nat_le version 3 then option_map Offset (as_unsigned v) else None

-- ---- attributes

-- name (2.15)
abbrev pub name_value : Item → Option Value
name_value = read_as as_text 0x03

-- linkage_name, else the attribute 2007 that older producers write (2.22)
abbrev pub linkage_value : Item → Option Value
linkage_value d = option_or (read_as as_text 0x6E d) (read_as as_text 0x2007 d)

-- low_pc (2.17)
abbrev pub low_pc : Item → Option Value
low_pc = read_as as_address 0x11

-- high_pc (2.17.2)
abbrev pub high_pc : Item → Option High
high_pc = read_as as_high 0x12

-- ranges, in a unit of this version (2.17.3)
abbrev pub ranges_value : ℕ → Item → Option Value
ranges_value version = read_as (as_ranges version) 0x55

-- the entry itself has low_pc, ranges or entry_pc (2.17, 2.18)
abbrev pub has_address : ℕ → Item → Bool
has_address version d = is_some (low_pc d) || is_some (ranges_value version d) || is_some (read_as as_address 0x52 d)

-- const_value, of any form (4.1)
abbrev pub has_const_value : Item → Bool
has_const_value d = is_some (attribute 0x1C d)

-- location, of any form (4.1)
abbrev pub has_location : Item → Bool
has_location d = is_some (attribute 0x02 d)

-- the entry itself is a declaration (2.13.1)
abbrev pub is_declaration : Item → Bool
is_declaration d = is_set (attribute 0x3C d)

-- the entry itself has the external flag (3.3.1, 4.1)
abbrev pub has_external : Item → Bool
has_external d = is_set (attribute 0x3F d)

-- the entry is a scoped enumeration (5.7)
abbrev pub has_enum_class : Item → Bool
has_enum_class d = is_set (attribute 0x6D d)

-- the calling convention of a main program (3.3.1.1)
abbrev pub is_calling_2 : Option ℕ → Bool
is_calling_2 (Some n) = n == 2
is_calling_2 None = false

-- the entry itself has main_subprogram or calling_convention 2 (3.3.1, 3.3.1.1)
abbrev pub says_main : Item → Bool
says_main d = is_set (attribute 0x6A d) || is_calling_2 (read_as as_unsigned 0x36 d)

-- signature, of the type unit that describes the entry (5.7.1)
abbrev pub signature_of : Item → Option ℕ
signature_of = read_as as_signature 0x69

-- the specification if there is one, else the abstract origin (2.13.2, 3.3.8.1)
abbrev pub next_reference : Item → Option Reference
next_reference d = option_or (read_as as_reference 0x47 d) (read_as as_reference 0x31 d)

-- import, of an imported unit (3.2.5)
abbrev pub import_of : Item → Option Reference
import_of = read_as as_reference 0x18

-- language; above 65,535 it counts as 0 (3.1.1, 7.12)
abbrev pub language_value : Item → Option ℕ
language_value d = option_map (λ n. if nat_le n 0xFFFF then n else 0) (read_as as_unsigned 0x13 d)
