-- What a state on a walk over a unit stands for.
use Rattle.std.specs.Prelude.{◌≡◌, ℕ, Bool, true, ◌&&◌, ◌==◌, List, ◌∷◌, ◌++◌, filter, is_some, Option, Some, None, Ok, option_map}
use Rattle.std.specs.List.{last_or}
use Rattle.index_model.specs.declared.unit.Unit.{Unit as UnitHeader}
use Rattle.index_model.specs.Sections.{Section}
use Rattle.index_model.specs.Walk.{Item}
use Rattle.index_model.specs.Program.{Program, Walked, Located, walked, items_of}
use Rattle.gdb_entries.specs.declared.language.LanguageClass.{LanguageClass}
use Rattle.gdb_entries.specs.declared.item.ItemFacts.{ItemFacts}
use Rattle.gdb_entries.specs.Chains.{facts_of, name_of}
use Rattle.gdb_entries.specs.Reached.{Reach, reach_under, reach_of, is_seen}
use Rattle.gdb_entries.specs.Scopes.{around_in}
use Rattle.gdb_reach.specs.declared.state.Look.{Look}
use Rattle.gdb_reach.specs.declared.state.Reached.{Reached}
use Rattle.gdb_reach.specs.declared.parents.ParentItem.{ParentItem}
use Rattle.gdb_reach.specs.Ways.{way_of}
use Rattle.gdb_reach.specs.Around.{innermost_open, open_by}
use Rattle.gdb_reach.specs.Parents.{parent_at}

-- a unit of a program, the class by which it is read, and the token that each item has with the one who walks
pub record UnitRead : Type 0 where
  pub program : Program
  pub class : LanguageClass
  pub unit : Walked
  pub token : Located → ℕ

-- an item of a unit
abbrev pub in_unit : Walked → Item → Located
in_unit w d = record { home = w; item = d }

-- the last of these items that has children and this depth
abbrev pub last_parent : List Item → ℕ → Option Item
last_parent passed depth = last_or None (filter (λ e. e.children && e.depth == depth) passed)

-- how gdb comes to what stands in an item
abbrev pub reach_in : UnitRead → Option Located → Option Reach
reach_in r e = reach_under r.program r.class e (reach_of r.program r.class)

-- the innermost open item around what stands in an item
abbrev pub open_in : UnitRead → Option Located → Option Located
open_in r e = innermost_open r.program (Some r.class) e (open_by r.program (Some r.class))

-- an item with children, as what stands in it knows it
abbrev pub parent_as : UnitRead → Item → ParentItem
parent_as r e =
    let here = in_unit r.unit e in
    record {
      token = r.token here;
      way = way_of r.token (reach_in r (Some here));
      innermost = option_map r.token (open_in r (Some here));
    }

-- The state keeps of each depth the last of the passed items that has children.
pub record StandsFor (r : UnitRead) (passed : List Item) (state : Reached) : Type 0 where
  pub class : state.class ≡ r.class
  pub parents : (depth : ℕ) → parent_at state.parents.items depth ≡ option_map (parent_as r) (last_parent passed depth)

-- the unit is one of some file
pub record IsOfAFile (w : Walked) : Type 0 where
  pub sections : List Section
  pub place : ℕ × UnitHeader
  pub walk : walked sections place ≡ Ok w

-- The item is one of a unit of a file. Of what stands before it at least all items with children were passed.
pub record ComesBehind (w : Walked) (passed : List Item) (d : Item) : Type 0 where
  pub file : IsOfAFile w
  pub before : List Item
  pub rest : List Item
  pub whole : before ++ d ∷ rest ≡ items_of w
  pub parents : filter (λ e. e.children) passed ≡ filter (λ e. e.children) before

-- ---- what is told of an item

-- its depth, and what the rules ask of it by itself
pub record IsTold (d : Item) (told_depth : ℕ) (told_facts : ItemFacts) : Type 0 where
  pub depth : told_depth ≡ d.depth
  pub facts : told_facts ≡ facts_of d

-- whether it has a name, where it is looked at and has children
abbrev pub IsNameTold : UnitRead → Item → Bool → Type 0
IsNameTold r d has_name = is_seen r.program r.class (in_unit r.unit d) ≡ true → d.children ≡ true → has_name ≡ is_some (name_of r.program r.class (in_unit r.unit d))

-- ---- what is answered

-- whether the item is looked at, and the token of the innermost open item around it
abbrev pub look_of : UnitRead → Item → Look
look_of r d =
    let here = in_unit r.unit d in
    record {
      is_seen = is_seen r.program r.class here;
      around = option_map r.token (around_in (reach_of r.program r.class here));
    }
