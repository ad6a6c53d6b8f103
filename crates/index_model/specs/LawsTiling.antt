-- The law of the units: they tile their sections.
use Rattle.std.specs.Prelude.{◌≡◌, ◌↔◌, ℕ, List, ◌++◌, flat_map, length, codes, Ok}
use Rattle.ix_base.specs.Reading.{input}
use Rattle.index_model.specs.declared.unit.Part.TheVariants.{Info, Types}
use Rattle.index_model.specs.declared.unit.Unit.{Unit as UnitHeader}
use Rattle.index_model.specs.Sections.{Section, section_bytes, bytes_from}
use Rattle.index_model.specs.Program.{joint}
use Rattle.index_model.specs.Tiling.{Tiles}
use Rattle.index_model.specs.Units.{next_unit, units_of}

-- the bytes of a unit, from its first byte to its end
abbrev pub unit_bytes : List Section → UnitHeader → List ℕ
unit_bytes ss u = bytes_from u.start u.length (joint ss)

-- These units tile both sections: each is read where the one before it ends, and the last ends with its section.
pub record TileTheSections (ss : List Section) (us : List UnitHeader) : Type 0 where
  pub infos : List UnitHeader
  pub others : List UnitHeader
  pub all : us ≡ infos ++ others
  pub in_info : Tiles (next_unit Info 0) 0 (input (section_bytes ss (codes ".debug_info")) 0) infos
  pub in_types : Tiles (next_unit Types (length (section_bytes ss (codes ".debug_info")))) (length infos) (input (section_bytes ss (codes ".debug_types")) 0) others

-- the units of sections without a fault are those that tile them, and there are no others
abbrev pub UnitsAreTheTiling : Type 0
UnitsAreTheTiling = (ss : List Section) (us : List UnitHeader) → (units_of ss ≡ Ok us) ↔ TileTheSections ss us

-- the bytes of such units, one after another, are the sections
abbrev pub UnitBytesAreTheSections : Type 0
UnitBytesAreTheSections = (ss : List Section) (us : List UnitHeader) (t : TileTheSections ss us) →
    (flat_map (unit_bytes ss) t.infos ≡ section_bytes ss (codes ".debug_info")) × (flat_map (unit_bytes ss) t.others ≡ section_bytes ss (codes ".debug_types"))
