-- Nodes by the offsets of their texts.
use Rattle.std.specs.Prelude.{◌≡◌, ℕ, Bool, List, Option, None, option_and_then, Ok}
use Rattle.index_model.specs.declared.small_node.OwnFacts.{OwnFacts}
use Rattle.index_model.specs.declared.small_node.SmallNode.{SmallNode}
use Rattle.index_model.specs.declared.unit.Unit.{Unit as UnitHeader}
use Rattle.index_model.specs.Attributes.{attribute, as_text, read_as, has_address, is_declaration, has_external, has_enum_class, says_main}
use Rattle.index_model.specs.Leaves.{small_seen, string_of}
use Rattle.index_model.specs.Rules.{has_value}
use Rattle.index_model.specs.Sections.{Section}
use Rattle.index_model.specs.Strings.{Texts, str}
use Rattle.index_model.specs.Walk.{Item}
use Rattle.shard_build.specs.Kept.{node_under}
use Rattle.shard_build.specs.Texts.{text_by, texts_by}

-- it has neither addresses nor a signature
pub record IsPlain (d : Item) : Type 0 where
  pub low : attribute 0x11 d ≡ None
  pub high : attribute 0x12 d ≡ None
  pub ranges : attribute 0x55 d ≡ None
  pub signature : attribute 0x69 d ≡ None

-- what it says of itself, in a unit of this version
abbrev pub own_of : ℕ → Item → OwnFacts
own_of version d = record {
  declaration = is_declaration d;
  external = has_external d;
  enum_class = has_enum_class d;
  main = says_main d;
  address = has_address version d;
  value = has_value d;
}

-- the text of an attribute is the string at this offset, if there is one
abbrev pub HasString : List Section → Item → ℕ → Option ℕ → Type 0
HasString ss d n offset = (base : Option ℕ) (wide : Bool) → text_by ss base wide (read_as as_text n d) ≡ Ok (option_and_then (string_of (str ss)) offset)

-- nothing is wrong with the texts of an entry with this parent, whatever the base is, and this is its node
abbrev pub IsSmallNode : List Section → ℕ × UnitHeader → Option ℕ → Item → SmallNode → Type 0
IsSmallNode ss u parent d s = (base : Option ℕ) → (t : Texts) × (texts_by ss base u.1.wide d ≡ Ok t) × (small_seen (str ss) s ≡ node_under ss u parent d t)
