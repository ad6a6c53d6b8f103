-- The front of an abbreviation: attributes whose values take the same bytes in each entry of a unit of the 32-bit format.
use Rattle.std.specs.Prelude.{◌≡◌, ◌+◌, ◌≤◌, ℕ, false, List, length, drop}
use Rattle.ix_base.specs.Reading.{Input}
use Rattle.index_model.specs.Meaning.{◌>>=◌}
use Rattle.index_model.specs.Forms.{value_at}
use Rattle.entry_scan.specs.declared.abbreviation.Spec.{Spec}
use Rattle.entry_scan.specs.declared.sizes.Front.{Front}
use Rattle.entry_scan.specs.declared.values.UnitFormat.{UnitFormat}
use Rattle.entry_scan.specs.Values.{values_at, place_read, past_bytes, TakeBytes}

-- units of this version in the 32-bit format
abbrev pub narrow : ℕ → UnitFormat
narrow version = record { version = version; wide = false }

-- the values of the first k attributes take n bytes, and behind these stand the others
abbrev pub Begins : ℕ → ℕ → List Spec → Type 0
Begins k n specs = (version : ℕ) (i : Input) → place_read (values_at (narrow version) specs i) ≡ (past_bytes n i >>= λ j. place_read (values_at (narrow version) (drop k specs) j))

-- these attributes begin with the front
pub record IsFront (specs : List Spec) (f : Front) : Type 0 where
  pub within : f.count ≤ length specs
  pub begins : Begins f.count f.bytes specs

-- the front and one more attribute of this form
pub record TakesNext (form : ℕ) (front longer : Front) : Type 0 where
  pub count : longer.count ≡ front.count + 1
  pub size : ℕ
  pub bytes : longer.bytes ≡ front.bytes + size
  pub takes : (version : ℕ) → TakeBytes size (value_at version false form)
