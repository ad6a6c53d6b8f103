-- What a call that reads a part of a table gives.
use Rattle.std.specs.Prelude.{◌≡◌, List, [], ◌∷◌, ◌++◌, Option, Some, None, Result, Ok, Err}
use Rattle.ix_base.specs.declared.or_memory.OrMemory.{OrMemory}
use Rattle.ix_base.specs.declared.or_memory.OrMemory.TheVariants as stops
use Rattle.entry_scan.specs.declared.abbreviation.Damaged.{Damaged}

-- The bytes are damaged exactly where they mean nothing. A call may stop for want of memory at any bytes.
abbrev pub FailsAs : {Y : Type 0} → OrMemory Damaged → Option Y → Type 0
FailsAs (stops.Cause damaged) meaning = meaning ≡ None
FailsAs stops.Memory meaning = Unit {0}

-- The answer, seen by view, is what the bytes mean, or they are damaged. Want of memory is free.
abbrev pub GivesOrFails : {X Y : Type 0} → (X → Y) → Result X (OrMemory Damaged) → Option Y → Type 0
GivesOrFails view (Ok x) meaning = meaning ≡ Some (view x)
GivesOrFails view (Err e) meaning = FailsAs e meaning

-- The same, where what the bytes mean was added to a list, and the bytes behind it are left.
abbrev pub AddsOrFails : {A B I : Type 0} → List A → List A → I → Result B (OrMemory Damaged) → Option (A × I) → Type 0
AddsOrFails {A} old new left (Ok done) meaning = (x : A) × (meaning ≡ Some (x, left)) × (new ≡ old ++ x ∷ [])
AddsOrFails old new left (Err e) meaning = FailsAs e meaning
