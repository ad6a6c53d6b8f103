-- The text of a value (DWARF 5, 7.5.5 on the class string, and 7.26 on `.debug_str_offsets`).
use Rattle.std.specs.Prelude.{ℕ, ◌+◌, ◌*◌, Bool, nat_le, if◌then◌else◌, List, [], ◌∷◌, length, drop, codes, Option, Some, None, option_and_then, Result, Ok}
use Rattle.ix_base.specs.declared.code.TheConstants.{BAD_STRING, NO_BASE, NAME_TOO_LONG}
use Rattle.ix_base.specs.declared.limits.TheConstants.{MAX_STRING}
use Rattle.ix_base.specs.Reading.{before_zero, offset, input}
use Rattle.index_model.specs.Meaning.{◌>>=◌, ◌>>◌, holds_or, some_or, value_of, if_some}
use Rattle.index_model.specs.Sections.{Section, section_bytes}
use Rattle.index_model.specs.Forms.{Value, Str, LineStr, StrIndex, Inline}
use Rattle.index_model.specs.Attributes.{read_as, as_offset, name_value, linkage_value}
use Rattle.index_model.specs.Program.{Walked, Located, root_of}

-- an offset has four bytes, and eight in the 64-bit format
abbrev pub offset_size : Bool → ℕ
offset_size wide = if wide then 8 else 4

-- an empty string counts as no name
abbrev pub unless_empty : List ℕ → Option (List ℕ)
unless_empty [] = None
unless_empty (b ∷ bs) = Some (b ∷ bs)

-- a string within the limit
unfoldable pub bounded : List ℕ → Result (Option (List ℕ)) ℕ
bounded s = do
  holds_or (nat_le (length s) MAX_STRING) NAME_TOO_LONG
  Ok (unless_empty s)

-- the string at an offset of a section
unfoldable pub string_at : List ℕ → ℕ → Result (Option (List ℕ)) ℕ
string_at bytes place = some_or (before_zero (drop place bytes)) BAD_STRING >>= bounded

module _ (ss : List Section) where
  -- the bytes of `.debug_str`
  abbrev pub str : List ℕ
  str = section_bytes ss (codes ".debug_str")

  -- the offset into `.debug_str` that stands at an index behind the base
  unfoldable pub str_offset : Option ℕ → Bool → ℕ → Result ℕ ℕ
  str_offset base wide n = do
    b ← some_or base NO_BASE
    o ← some_or (offset wide (input (section_bytes ss (codes ".debug_str_offsets")) (b + offset_size wide * n))) BAD_STRING
    Ok o.0

  -- the text of a value; none where it isn't of a string form or is empty
  unfoldable pub text_of : Option ℕ → Bool → Value → Result (Option (List ℕ)) ℕ
  text_of base wide (Inline s) = bounded s
  text_of base wide (Str o) = string_at str o
  text_of base wide (LineStr o) = string_at (section_bytes ss (codes ".debug_line_str")) o
  text_of base wide (StrIndex n) = str_offset base wide n >>= string_at str
  text_of base wide other = Ok None

-- the base of an indexed form: a sec_offset on the root
abbrev pub base_of : ℕ → Walked → Option ℕ
base_of n w = option_and_then (read_as as_offset n) (root_of w)

-- the text of a value in an entry of the unit, if there is one
abbrev pub text_in : List Section → Walked → Option Value → Result (Option (List ℕ)) ℕ
text_in ss w v = if_some v (text_of ss (base_of 0x72 w) w.unit.wide)

-- both texts of an entry, name before linkage name
abbrev pub Texts : Type 0
Texts = record { name : Option (List ℕ); linkage : Option (List ℕ) }

-- the texts of an entry, name before linkage name, or the first code that is wrong
unfoldable pub texts_of : List Section → Located → Result Texts ℕ
texts_of ss d = do
  name ← text_in ss d.home (name_value d.item)
  linkage ← text_in ss d.home (linkage_value d.item)
  Ok (record { name = name; linkage = linkage })

-- the text that is there
abbrev pub some_text : Option (Option (List ℕ)) → Option (List ℕ)
some_text (Some t) = t
some_text None = None

-- the name that the entry itself has, in a file without a fault
unfoldable pub own_name : List Section → Located → Option (List ℕ)
own_name ss d = some_text (value_of (text_in ss d.home (name_value d.item)))

-- the linkage name that the entry itself has, in a file without a fault
unfoldable pub own_linkage_name : List Section → Located → Option (List ℕ)
own_linkage_name ss d = some_text (value_of (text_in ss d.home (linkage_value d.item)))
