-- The texts of an entry that needn't be read.
use Rattle.std.proofs.Common.{◌≡◌, ℕ, Bool, false, List, Option, Some, None, Result, Ok, refl, sym, ap, ◌∙◌}
use Rattle.std.specs.Prelude.{is_some, option_and_then}
use Rattle.std.specs.Option.{option_or}
use Rattle.index_model.specs.Attributes.{attribute, read_as, as_text, name_value, linkage_value}
use Rattle.index_model.specs.Forms.{Value, Str}
use Rattle.index_model.specs.Meaning.{value_of}
use Rattle.index_model.specs.Sections.{Section}
use Rattle.index_model.specs.Strings.{Texts, some_text, text_of}
use Rattle.index_model.specs.Walk.{Item}
use Rattle.index_model.proofs.Meanings.{bind_ok, same_ok}
use Rattle.shard_build.specs.Texts.{text_by, texts_by}
use Rattle.gdb_items.specs.declared.text.ItemText.{ItemText}
use Rattle.gdb_items.specs.Texts.{string_told, text_told, texts_told}

module _ (ss : List Section) (base : Option ℕ) (wide : Bool) (d : Item) where
  -- the text of a value
  abbrev pub text : Option Value → Option (List ℕ)
  text v = some_text (value_of (text_by ss base wide v))

  -- one that stands at an offset
  pub placed_name : (place : ℕ) → attribute 0x03 d ≡ Some (Str place) → string_told ss place ≡ text (name_value d)
  unfolding text_of
  placed_name place is = ap (λ (v : Option Value). text (option_and_then as_text v)) (sym is)

  pub placed_linkage : (place : ℕ) → attribute 0x6E d ≡ Some (Str place) → string_told ss place ≡ text (linkage_value d)
  unfolding text_of
  placed_linkage place is = ap (λ (v : Option Value). text (option_or (option_and_then as_text v) (read_as as_text 0x2007 d))) (sym is)

  -- one that isn't there
  pub no_name : is_some (attribute 0x03 d) ≡ false → None ≡ text (name_value d)
  no_name none = by (attribute 0x03 d) none
    where
      by : (v : Option Value) → is_some v ≡ false → None ≡ text (option_and_then as_text v)
      by None e = refl
      by (Some v) e = absurd cc

  pub no_linkage : is_some (attribute 0x6E d) ≡ false → is_some (attribute 0x2007 d) ≡ false → None ≡ text (linkage_value d)
  no_linkage none nor = by (attribute 0x6E d) (attribute 0x2007 d) none nor
    where
      by : (v w : Option Value) → is_some v ≡ false → is_some w ≡ false → None ≡ text (option_or (option_and_then as_text v) (option_and_then as_text w))
      by None None e f = refl
      by None (Some w) e f = absurd cc
      by (Some v) w e f = absurd cc

  -- both, in an entry without a fault
  pub both_told : (t : Texts) → texts_by ss base wide d ≡ Ok t → (name linkage : ItemText) → text_told ss name ≡ text (name_value d) → text_told ss linkage ≡ text (linkage_value d) → texts_told ss name linkage ≡ t
  unfolding texts_by
  both_told t is name linkage is_name is_linkage =
      let a = bind_ok (text_by ss base wide (name_value d)) _ t is in
      let b = bind_ok (text_by ss base wide (linkage_value d)) _ t a.2 in
      let made : Texts = record { name = a.0; linkage = b.0 } in
      let of_text : Result (Option (List ℕ)) ℕ → Option (List ℕ) = λ (r : Result (Option (List ℕ)) ℕ). some_text (value_of r) in
      ap (λ (n : Option (List ℕ)). record { name = n; linkage = text_told ss linkage }) (is_name ∙ ap of_text a.1)
      ∙ ap (λ (l : Option (List ℕ)). record { name = a.0; linkage = l }) (is_linkage ∙ ap of_text b.1)
      ∙ same_ok made t b.2
