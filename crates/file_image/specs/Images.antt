-- A program file with its sections and units.
use Rattle.std.specs.Prelude.{◌≡◌, slice_get, Some, ℕ, List, take, drop, Result, Ok}
use Rattle.ix_base.specs.declared.fault.Fault.{Fault}
use Rattle.index_model.specs.declared.unit.Unit.{Unit as UnitHeader}
use Rattle.index_model.specs.Meaning.{◌>>=◌}
use Rattle.index_model.specs.Sections.{Section, sections_of}
use Rattle.index_model.specs.Units.{units_of}
use Rattle.index_model.specs.Program.{joint}

-- a file, its sections and the units that tile them
pub record Image : Type 0 where
  pub file : List ℕ
  pub sections : List Section
  pub units : List UnitHeader

-- the file with its sections and units, or the first fault of the sections and then of the units' headers
unfoldable pub image_of : List ℕ → Result Image Fault
image_of file = do
  sections ← sections_of file
  units ← units_of sections
  Ok (record { file = file; sections = sections; units = units })

-- the bytes of a unit, from its first byte to its end
abbrev pub unit_bytes : List Section → UnitHeader → List ℕ
unit_bytes sections u = take u.length (drop u.start (joint sections))

-- what holds of the unit with this number
abbrev pub ForUnit : List UnitHeader → ℕ → (UnitHeader → Type 0) → Type 0
ForUnit units number P = (u : UnitHeader) → slice_get units number ≡ Some u → P u

-- the image of these parts
abbrev pub view_of : List ℕ → List Section → List UnitHeader → Image
view_of file sections units = record { file = file; sections = sections; units = units }
