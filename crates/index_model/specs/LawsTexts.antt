-- The law of the texts that stand in their entries (DWARF 5, 7.5.5 on the form string).
use Rattle.std.specs.Prelude.{◌≡◌, ℕ, ◌+◌, ◌-◌, ◌≤◌, List, length, take, drop, Contains, Some, Ok}
use Rattle.index_model.specs.declared.unit.Unit.{Unit as UnitHeader}
use Rattle.index_model.specs.Sections.{Section}
use Rattle.index_model.specs.Forms.{Inline}
use Rattle.index_model.specs.Attributes.{attribute}
use Rattle.index_model.specs.Walk.{Item}
use Rattle.index_model.specs.Program.{Walked, walked, items_of, joint}

-- the text is a part of the bytes, not before one place and not beyond another
pub record StandsIn (bytes text : List ℕ) (from to : ℕ) : Type 0 where
  pub place : ℕ
  pub begins : from ≤ place
  pub ends : place + length text ≤ to
  pub inside : place + length text ≤ length bytes
  pub is : take (length text) (drop place bytes) ≡ text

-- the text stands in the bytes of the unit, between the entry's place and the place behind it
abbrev pub StandsInEntry : List Section → UnitHeader → Item → List ℕ → Type 0
StandsInEntry ss u d text = StandsIn (take u.length (drop u.start (joint ss))) text (d.at - u.start) (d.after - u.start)

-- each text among the values of an entry stands in the entry
abbrev pub InlineTextsStandInTheirEntries : Type 0
InlineTextsStandInTheirEntries = (ss : List Section) (u : ℕ × UnitHeader) (w : Walked) → walked ss u ≡ Ok w → (d : Item) → Contains (items_of w) d →
    (n : ℕ) (text : List ℕ) → Contains d.values (n, Inline text) → StandsInEntry ss u.1 d text

-- so does the text of an attribute
abbrev pub AttributeTextsStandInTheirEntries : Type 0
AttributeTextsStandInTheirEntries = (ss : List Section) (u : ℕ × UnitHeader) (w : Walked) → walked ss u ≡ Ok w → (d : Item) → Contains (items_of w) d →
    (n : ℕ) (text : List ℕ) → attribute n d ≡ Some (Inline text) → StandsInEntry ss u.1 d text
