-- A value that isn't a text has no text.
use Rattle.std.proofs.Common.{◌≡◌, ℕ, Bool, List, Option, Some, option_and_then, refl}
use Rattle.index_model.specs.Attributes.{as_text}
use Rattle.index_model.specs.Forms.{Value, Addr, Unsigned, Str, LineStr, StrIndex, AddrIndex, Near, Far, Signature, Offset, RangeIndex, ListIndex, Signed, Flag, Inline, Block, Wide}
use Rattle.index_model.specs.Sections.{Section}
use Rattle.index_model.specs.Strings.{text_of}
use Rattle.shard_build.specs.Texts.{text_by}

-- so the text of a value needs no test of its form
pub text_anyway : (ss : List Section) (base : Option ℕ) (wide : Bool) (v : Value) → text_by ss base wide (option_and_then as_text (Some v)) ≡ text_of ss base wide v
unfolding text_of
text_anyway ss base wide (Addr x) = refl
text_anyway ss base wide (Unsigned x) = refl
text_anyway ss base wide (Str x) = refl
text_anyway ss base wide (LineStr x) = refl
text_anyway ss base wide (StrIndex x) = refl
text_anyway ss base wide (AddrIndex x) = refl
text_anyway ss base wide (Near x) = refl
text_anyway ss base wide (Far x) = refl
text_anyway ss base wide (Signature x) = refl
text_anyway ss base wide (Offset x) = refl
text_anyway ss base wide (RangeIndex x) = refl
text_anyway ss base wide (ListIndex x) = refl
text_anyway ss base wide (Signed x) = refl
text_anyway ss base wide (Flag x) = refl
text_anyway ss base wide (Inline x) = refl
text_anyway ss base wide (Block x) = refl
text_anyway ss base wide Wide = refl
