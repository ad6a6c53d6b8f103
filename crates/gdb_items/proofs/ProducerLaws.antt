-- The producer of a root by the text of its value.
use Rattle.std.proofs.Common.{◌≡◌, ℕ, Bool, List, Option, Some, None, Result, option_and_then, refl, ap, ◌∙◌}
use Rattle.index_model.specs.Attributes.{attribute, as_text}
use Rattle.index_model.specs.Forms.{Value, Addr, Unsigned, Str, LineStr, StrIndex, AddrIndex, Near, Far, Signature, Offset, RangeIndex, ListIndex, Signed, Flag, Inline, Block, Wide}
use Rattle.index_model.specs.Meaning.{value_of}
use Rattle.index_model.specs.Sections.{Section}
use Rattle.index_model.specs.Strings.{text_of, some_text}
use Rattle.index_model.specs.Walk.{Item}
use Rattle.shard_build.specs.Texts.{text_by}
use Rattle.gdb_items.specs.Roots.{producer_by}

module _ (ss : List Section) (base : Option ℕ) (wide : Bool) where
  -- a value that isn't a text has no text
  text_anyway : (v : Value) → text_by ss base wide (as_text v) ≡ text_of ss base wide v
  unfolding text_of
  text_anyway (Addr x) = refl
  text_anyway (Unsigned x) = refl
  text_anyway (Str x) = refl
  text_anyway (LineStr x) = refl
  text_anyway (StrIndex x) = refl
  text_anyway (AddrIndex x) = refl
  text_anyway (Near x) = refl
  text_anyway (Far x) = refl
  text_anyway (Signature x) = refl
  text_anyway (Offset x) = refl
  text_anyway (RangeIndex x) = refl
  text_anyway (ListIndex x) = refl
  text_anyway (Signed x) = refl
  text_anyway (Flag x) = refl
  text_anyway (Inline x) = refl
  text_anyway (Block x) = refl
  text_anyway Wide = refl

  abbrev text_at : Option Value → Option (List ℕ)
  text_at o = some_text (value_of (text_by ss base wide (option_and_then as_text o)))

  module _ (d : Item) where
    -- where the root has no producer
    pub no_producer : attribute 0x25 d ≡ None → producer_by ss base wide d ≡ None
    no_producer at = ap text_at at

    -- where it has one
    pub producer_text : (v : Value) → attribute 0x25 d ≡ Some v → (r : Result (Option (List ℕ)) ℕ) → text_of ss base wide v ≡ r → producer_by ss base wide d ≡ some_text (value_of r)
    producer_text v at r is = ap text_at at ∙ ap (λ (x : Result (Option (List ℕ)) ℕ). some_text (value_of x)) (text_anyway v ∙ is)
