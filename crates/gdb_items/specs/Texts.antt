-- The texts of an item, which are read where they are asked for.
use Rattle.std.specs.Prelude.{ℕ, List, Option, Some, None}
use Rattle.index_model.specs.Meaning.{value_of}
use Rattle.index_model.specs.Sections.{Section}
use Rattle.index_model.specs.Strings.{Texts, some_text, str, string_at}
use Rattle.gdb_items.specs.declared.text.ItemText.{ItemText}
use Rattle.gdb_items.specs.declared.text.ItemText.TheVariants.{Absent, Read, InStr}

-- the text at an offset of `.debug_str`; none where it is empty or can't be read
abbrev pub string_told : List Section → ℕ → Option (List ℕ)
string_told ss place = some_text (value_of (string_at (str ss) place))

-- the bytes of a text, in a file with these sections
abbrev pub text_told : List Section → ItemText → Option (List ℕ)
text_told ss Absent = None
text_told ss (Read bytes) = Some bytes.now
text_told ss (InStr place) = string_told ss place

-- those of both texts
abbrev pub texts_told : List Section → ItemText → ItemText → Texts
texts_told ss name linkage = record { name = text_told ss name; linkage = text_told ss linkage }
