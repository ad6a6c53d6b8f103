-- A program file as its sections and the walks of its units.
use Rattle.std.specs.Prelude.{ℕ, ◌+◌, ◌-◌, ◌==◌, List, map, flat_map, find, ◌++◌, take, drop, codes, Option, Result, Ok, option_map}
use Rattle.ix_base.specs.declared.fault.Fault.{Fault}
use Rattle.index_model.specs.declared.unit.Unit.{Unit as UnitHeader}
use Rattle.ix_base.specs.declared.code.TheConstants.{BAD_ABBREVIATION}
use Rattle.ix_base.specs.Reading.{Input}
use Rattle.index_model.specs.Meaning.{◌>>=◌, fault, some_or}
use Rattle.index_model.specs.Sections.{Section, section_bytes}
use Rattle.index_model.specs.Abbreviations.{table}
use Rattle.index_model.specs.Walk.{Item, Walk, walk_of, items, parent_of}

-- a unit, its number in section order, and its walk
pub record Walked : Type 0 where
  pub number : ℕ
  pub unit : UnitHeader
  pub walk : Walk

-- the sections of a file and the walks of its units
pub record Program : Type 0 where
  pub sections : List Section
  pub walks : List Walked

-- an item, and the unit in which it stands
pub record Located : Type 0 where
  pub home : Walked
  pub item : Item

-- ---- walks of units

-- the bytes of both sections, as joint offsets count them
abbrev pub joint : List Section → List ℕ
joint ss = section_bytes ss (codes ".debug_info") ++ section_bytes ss (codes ".debug_types")

-- the bytes of a unit behind its header
abbrev pub body : List Section → UnitHeader → Input
body ss u = record { at = u.start + u.body; rest = take (u.length - u.body) (drop (u.start + u.body) (joint ss)) }

-- the walk of a unit by the abbreviations at its offset, or the fault of these
unfoldable pub walked : List Section → ℕ × UnitHeader → Result Walked Fault
walked ss u = do
  abbrevs ← some_or (table (section_bytes ss (codes ".debug_abbrev")) u.1.«abbrev») (fault BAD_ABBREVIATION u.1.start)
  Ok (record { number = u.0; unit = u.1; walk = walk_of u.1 abbrevs (body ss u.1) })

-- ---- items of a file

-- the entries of a unit
abbrev pub items_of : Walked → List Item
items_of w = items w.walk

-- the entries of a unit, each with its unit
abbrev pub located : Walked → List Located
located w = map (λ d. record { home = w; item = d }) (items_of w)

-- the root of a unit, if it has entries
abbrev pub root_of : Walked → Option Item
root_of w = find (λ d. d.depth == 0) (items_of w)

-- the lexical parent
abbrev pub scope_around : Located → Option Located
scope_around d = option_map (λ e. record { home = d.home; item = e }) (parent_of (items_of d.home) d.item)

-- the item of any walk that stands at the offset
unfoldable pub item_with_offset : Program → ℕ → Option Located
item_with_offset p o = find (λ d. d.item.at == o) (flat_map located p.walks)
