-- Units that lie in their sections.
use Rattle.std.specs.Prelude.{◌≡◌, ◌+◌, ◌≤◌, ℕ, List, [], ◌∷◌, length, codes, Ok}
use Rattle.ix_base.specs.declared.limits.TheConstants.{MAX_UNITS}
use Rattle.index_model.specs.declared.unit.Part.{Part}
use Rattle.index_model.specs.declared.unit.Part.TheVariants.{Info, Types}
use Rattle.index_model.specs.declared.unit.Unit.{Unit as UnitHeader}
use Rattle.index_model.specs.Sections.{Section, section_bytes}
use Rattle.file_image.specs.Images.{Image, image_of}

-- the unit of the section takes the bytes between two places, and has its header in them
pub record Spans (section : Part) (base from to : ℕ) (u : UnitHeader) : Type 0 where
  pub part : u.part ≡ section
  pub start : u.start ≡ base + from
  pub end : u.start + u.length ≡ base + to
  pub header : u.body ≤ u.length

-- the joint offset of the first byte of a section, where `.debug_info` has so many bytes
abbrev pub base_of : Part → ℕ → ℕ
base_of Info info = 0
base_of Types info = info

-- the length of a section, where `.debug_info` and `.debug_types` have these
abbrev pub size_of : Part → ℕ → ℕ → ℕ
size_of Info info types = info
size_of Types info types = types

-- the unit lies in its section, and its header in the unit
pub record IsInside (info types : ℕ) (u : UnitHeader) : Type 0 where
  pub start : base_of u.part info ≤ u.start
  pub end : u.start + u.length ≤ base_of u.part info + size_of u.part info types
  pub header : u.body ≤ u.length

-- all units do
abbrev pub AreInside : ℕ → ℕ → List UnitHeader → Type 0
AreInside info types [] = Unit {0}
AreInside info types (u ∷ us) = IsInside info types u × AreInside info types us

-- all units lie in their sections, and their headers in them
abbrev pub LieInSections : List Section → List UnitHeader → Type 0
LieInSections ss us = AreInside (length (section_bytes ss (codes ".debug_info"))) (length (section_bytes ss (codes ".debug_types"))) us

-- An image is that of its file. Its units are no more than an index can number.
pub record IsWhole (image : Image) (info types : List ℕ) : Type 0 where
  pub of_file : image_of image.file ≡ Ok image
  pub of_info : info ≡ section_bytes image.sections (codes ".debug_info")
  pub of_types : types ≡ section_bytes image.sections (codes ".debug_types")
  pub small_info : length info ≤ 1073741824
  pub small_types : length types ≤ 1073741824
  pub inside : AreInside (length info) (length types) image.units
  pub few : length image.units ≤ MAX_UNITS
