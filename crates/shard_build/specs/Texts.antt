-- The texts of an entry, by what its unit's root says (DWARF 5, 7.5.5 on the class string).
use Rattle.std.specs.Prelude.{◌≡◌, ℕ, ◌-◌, Bool, List, Option, Some, IfSome, option_map, Result, Ok}
use Rattle.shard_build.specs.declared.texts.ItemTexts.{ItemTexts as TextsRead}
use Rattle.shard_build.specs.declared.texts.TextOffsets.{TextOffsets}
use Rattle.index_model.specs.declared.unit.Unit.{Unit as UnitHeader}
use Rattle.index_model.specs.Meaning.{◌>>=◌, if_some}
use Rattle.index_model.specs.Sections.{Section}
use Rattle.index_model.specs.Forms.{Value, Inline, Str}
use Rattle.index_model.specs.Attributes.{attribute, name_value, linkage_value, read_as, as_text}
use Rattle.index_model.specs.Strings.{Texts, text_of}
use Rattle.index_model.specs.Walk.{Item}
use Rattle.index_model.specs.LawsTexts.{StandsIn}

module _ (ss : List Section) (base : Option ℕ) (wide : Bool) where
  -- the text of a value, if there is one
  abbrev pub text_by : Option Value → Result (Option (List ℕ)) ℕ
  text_by v = if_some v (text_of ss base wide)

  -- both texts of an entry, name before linkage name, or the first code that is wrong
  unfoldable pub texts_by : Item → Result Texts ℕ
  texts_by d = do
    name ← text_by (name_value d)
    linkage ← text_by (linkage_value d)
    Ok (record { name = name; linkage = linkage })

-- each text that stands in the entry stands in these bytes of its unit
abbrev pub HoldsTexts : List ℕ → UnitHeader → Item → Type 0
HoldsTexts bytes u d = (n : ℕ) (text : List ℕ) → attribute n d ≡ Some (Inline text) → StandsIn bytes text (d.at - u.start) (d.after - u.start)

-- the texts with their bytes
abbrev pub texts_seen : TextsRead → Texts
texts_seen t = record { name = option_map (λ b. b.now) t.name; linkage = option_map (λ b. b.now) t.linkage }

-- the linkage name stands in that attribute, and where an offset is known it is that of the text
abbrev pub AreOffsets : Item → TextOffsets → Type 0
AreOffsets d o = (read_as as_text o.linkage_attribute d ≡ linkage_value d) × IfSome o.name (λ at. attribute 0x03 d ≡ Some (Str at)) × IfSome o.linkage (λ at. attribute o.linkage_attribute d ≡ Some (Str at))
