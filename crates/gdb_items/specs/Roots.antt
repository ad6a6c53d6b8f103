-- What is read of the root of a unit (DWARF 5, 3.1.1).
use Rattle.std.specs.Prelude.{◌≡◌, ℕ, Bool, if◌then◌else◌, List, map, Option, option_map, unwrap_or}
use Rattle.index_model.specs.Attributes.{read_as, as_text, language_value}
use Rattle.index_model.specs.Meaning.{value_of}
use Rattle.index_model.specs.Program.{Walked, Program}
use Rattle.index_model.specs.Sections.{Section}
use Rattle.index_model.specs.Strings.{some_text}
use Rattle.index_model.specs.Walk.{Item}
use Rattle.shard_build.specs.Texts.{text_by}
use Rattle.gdb_entries.specs.declared.language.LanguageClass.{LanguageClass}
use Rattle.gdb_entries.specs.declared.language.LanguageClass.TheVariants.{Go}
use Rattle.gdb_entries.specs.Classes.{class_of}
use Rattle.gdb_entries.specs.Owners.{is_go_compiler, is_partial_root, own_class}
use Rattle.gdb_units.specs.declared.units.UnitRoot.{UnitRoot}
use Rattle.gdb_units.specs.Given.{root_facts}
use Rattle.gdb_items.specs.declared.root.RootRead.{RootRead}
use Rattle.gdb_items.specs.declared.roots.Roots.{Roots}

-- ---- by the root alone

-- what is told of a unit with this root
abbrev pub facts_by : Option Item → UnitRoot
facts_by root = record { offset = option_map (λ d. d.at) root; partial = is_partial_root root }

module _ (ss : List Section) (base : Option ℕ) (wide : Bool) where
  -- the producer that a root names
  abbrev pub producer_by : Item → Option (List ℕ)
  producer_by root = some_text (value_of (text_by ss base wide (read_as as_text 0x25 root)))

  -- the class of the language that a root names
  abbrev pub class_by : Item → LanguageClass
  class_by root = if is_go_compiler (producer_by root) then Go else class_of (unwrap_or (language_value root) 0)

-- ---- of units

-- what is read is the root of the unit
pub record IsRootOf (p : Program) (w : Walked) (r : RootRead) : Type 0 where
  pub unit : r.unit ≡ root_facts w
  pub class : r.class ≡ own_class p w

-- what is read are the roots of these units
pub record AreRootsOf (p : Program) (ws : List Walked) (r : Roots) : Type 0 where
  pub units : r.units.items ≡ map root_facts ws
  pub classes : r.classes.items ≡ map (own_class p) ws
