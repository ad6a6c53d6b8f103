-- The type units of a file by their signatures (DWARF 5, 7.32).
use Rattle.std.specs.Prelude.{◌≡◌, ℕ, ◌==◌, if◌then◌else◌, List, filter_map, find, Option, Some, None, Ok}
use Rattle.std.specs.List.{enumerate_from}
use Rattle.std.specs.List.Sorted.{IsNonDecreasingBy}
use Rattle.index_model.specs.declared.unit.Unit.{Unit as UnitHeader}
use Rattle.index_model.specs.Chains.{is_type_unit}
use Rattle.file_image.specs.Images.{Image, image_of}
use Rattle.parent_resolve.specs.declared.signatures.TypeUnit.{TypeUnit}

-- what is kept of a unit with its number, if it is a type unit
abbrev pub as_type_unit : ℕ × UnitHeader → Option TypeUnit
as_type_unit u = if is_type_unit u.1.sort then Some (record { signature = u.1.signature; unit = u.0; type_offset = u.1.type_offset }) else None

-- the type units among these, in their order
abbrev pub type_units : List UnitHeader → List TypeUnit
type_units units = filter_map as_type_unit (enumerate_from 0 units)

-- the first of these with the signature
abbrev pub first_signed : List TypeUnit → ℕ → Option TypeUnit
first_signed ts s = find (λ t. t.signature == s) ts

-- the type units of these units by their signatures; of each signature the same one is the first
pub record AreSigned (units : List UnitHeader) (ts : List TypeUnit) : Type 0 where
  pub rise : IsNonDecreasingBy (λ t. t.signature) ts
  pub first : (s : ℕ) → first_signed ts s ≡ first_signed (type_units units) s

-- the image is that of its file, and these are its type units
pub record AreTypeUnitsOf (image : Image) (ts : List TypeUnit) : Type 0 where
  pub of_file : image_of image.file ≡ Ok image
  pub signed : AreSigned image.units ts

-- whatever units they are those of
abbrev pub IsFirstSigned : List TypeUnit → ℕ → Option TypeUnit → Type 0
IsFirstSigned ts s answer = (units : List UnitHeader) → AreSigned units ts → answer ≡ first_signed (type_units units) s
