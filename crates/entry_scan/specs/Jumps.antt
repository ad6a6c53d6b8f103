-- Where the values of an abbreviation's attributes begin in each entry of a unit of the 32-bit format.
use Rattle.std.specs.Prelude.{◌≡◌, ◌<◌, ◌%◌, ℕ, false, List, length, take, slice_index_or, Option, None, IfSome}
use Rattle.ix_base.specs.Reading.{Input}
use Rattle.entry_scan.specs.declared.abbreviation.Spec.{Spec}
use Rattle.entry_scan.specs.declared.jumps.Jump.{Jump}
use Rattle.entry_scan.specs.declared.jumps.Jumps.{Jumps}
use Rattle.entry_scan.specs.declared.values.UnitFormat.{UnitFormat}
use Rattle.entry_scan.specs.Fronts.{narrow}
use Rattle.entry_scan.specs.Values.{values_at, place_read, past_bytes}

-- the values of the first k attributes take n bytes
abbrev pub Take : ℕ → ℕ → List Spec → Type 0
Take k n specs = (version : ℕ) (i : Input) → place_read (values_at (narrow version) (take k specs) i) ≡ past_bytes n i

-- none of the first k attributes has a number that leaves the same, divided by 64
abbrev pub LacksBefore : ℕ → ℕ → List Spec → Type 0
LacksBefore k number specs = (j : ℕ) (d : Spec) → j < k → (slice_index_or specs j d).attribute % 64 ≡ number % 64 → ⊥

-- the attribute is the first with such a number, and its value begins behind so many bytes
pub record IsJump (specs : List Spec) (number : ℕ) (j : Jump) : Type 0 where
  pub within : j.index < length specs
  pub first : LacksBefore j.index number specs
  pub takes : Take j.index j.bytes specs

-- the jump of the numbers that leave the same
abbrev pub slot : Jumps → ℕ → Option Jump
slot js number = slice_index_or js.slots (number % 64) None

-- each is the jump of such an attribute
abbrev pub AreJumps : List Spec → Jumps → Type 0
AreJumps specs js = (number : ℕ) → IfSome (slot js number) (IsJump specs number)

-- the jump leads to the first attribute with the number
pub record Leads (f : UnitFormat) (specs : List Spec) (number : ℕ) (j : Jump) : Type 0 where
  pub narrow_ : f.wide ≡ false
  pub jump : IsJump specs number j
  pub own : (d : Spec) → (slice_index_or specs j.index d).attribute ≡ number
