-- What a call that reads on in bytes does.
use Rattle.std.specs.Prelude.{◌≡◌, ◌≤◌, ◌+◌, length, Option, Some, None}
use Rattle.ix_base.specs.Reading.{Input}

-- The call read what a reader of the bytes reads. Where that is nothing the cursor stays.
abbrev pub ReadsOrStays : {X Y : Type 0} → (X → Y) → (Input → Option (Y × Input)) → Input → Input → Option X → Type 0
ReadsOrStays view read old new None = (read old ≡ None) × (new ≡ old)
ReadsOrStays view read old new (Some x) = read old ≡ Some (view x, new)

-- The same, where nothing is said of the place after a None.
abbrev pub Reads : {X Y : Type 0} → (X → Y) → (Input → Option (Y × Input)) → Input → Input → Option X → Type 0
Reads view read old new None = read old ≡ None
Reads view read old new (Some x) = read old ≡ Some (view x, new)

-- the place moved on, and the bytes end where they ended
pub record MovesOn (old new : Input) : Type 0 where
  pub onwards : old.at ≤ new.at
  pub end : new.at + length new.rest ≡ old.at + length old.rest
