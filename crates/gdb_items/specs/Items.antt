-- The items of a unit as gdb's rules ask of them.
use Rattle.std.specs.Prelude.{◌≡◌, ℕ, Bool, true, ◌||◌, ◌==◌, List, Contains, filter, is_some, option_and_then, Ok}
use Rattle.std.specs.List.{AllZip}
use Rattle.index_model.specs.Attributes.{is_declaration, has_enum_class}
use Rattle.index_model.specs.Faults.{program_of}
use Rattle.index_model.specs.Program.{Program, Walked, Located, located}
use Rattle.index_model.specs.References.{target_of}
use Rattle.index_model.specs.Sections.{Section}
use Rattle.index_model.specs.Strings.{own_name, own_linkage_name}
use Rattle.index_model.specs.Walk.{Item}
use Rattle.gdb_entries.specs.Chains.{facts_of, origin_of}
use Rattle.gdb_entries.specs.Kinds.{kinds_of}
use Rattle.gdb_items.specs.declared.item.UnitItem.{UnitItem}
use Rattle.gdb_items.specs.declared.which.Which.{Which}
use Rattle.gdb_items.specs.declared.which.Which.TheVariants.{Listed, All}
use Rattle.gdb_items.specs.Texts.{text_told}

-- the root, an item with children, one whose tag gdb lists, or a declaration
abbrev pub may_count : Item → Bool
may_count d = d.depth == 0 || d.children || is_some (kinds_of d.tag) || is_declaration d

-- whether an item is kept
abbrev pub keeps : Which → Item → Bool
keeps Listed d = may_count d
keeps All d = true

-- the items of a unit that are kept
abbrev pub kept_of : Which → Walked → List Located
kept_of which w = filter (λ d. keeps which d.item) (located w)

-- what is told is the item's
pub record IsItemOf (ss : List Section) (i : UnitItem) (d : Located) : Type 0 where
  pub offset : i.offset ≡ d.item.at
  pub depth : i.depth ≡ d.item.depth
  pub facts : i.facts ≡ facts_of d.item
  pub scoped : i.scoped ≡ has_enum_class d.item
  pub origin : i.origin ≡ option_and_then (target_of ss d.home) (origin_of d.item)
  pub name : text_told ss i.name ≡ own_name ss d
  pub linkage : text_told ss i.linkage ≡ own_linkage_name ss d

-- the items are those of the file's unit with the number that are kept
abbrev pub AreItemsOf : List ℕ → ℕ → Which → List UnitItem → Type 0
AreItemsOf file unit which items = (p : Program) → program_of file ≡ Ok p → (w : Walked) → Contains p.walks w → w.number ≡ unit → AllZip (IsItemOf p.sections) items (kept_of which w)
