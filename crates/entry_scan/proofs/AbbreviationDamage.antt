-- What fails below fails above.
use Rattle.std.proofs.Common.{◌≡◌, Option, None, Result, Err}
use Rattle.ix_base.specs.declared.or_memory.OrMemory.{OrMemory}
use Rattle.ix_base.specs.declared.or_memory.OrMemory.TheVariants as stops
use Rattle.entry_scan.specs.declared.abbreviation.Damaged.{Damaged}
use Rattle.entry_scan.specs.GivesTable.{FailsAs, GivesOrFails}

pub damaged : {X Y : Type 0} (view : X → Y) (r : Result X (OrMemory Damaged)) (meaning : Option Y) (d : Damaged) → r ≡ Err (stops.Cause d) → meaning ≡ None → GivesOrFails view r meaning
damaged view r meaning d e none = rw e none

-- what the call below failed by is what this one fails by
pub passed_on : {X Y Z : Type 0} (view : X → Y) (r : Result X (OrMemory Damaged)) (meaning : Option Y) (below : Option Z) (e : OrMemory Damaged) → r ≡ Err e → FailsAs e below → (below ≡ None → meaning ≡ None) → GivesOrFails view r meaning
passed_on view r meaning below (stops.Cause d) is h up = rw is (up h)
passed_on view r meaning below stops.Memory is h up = rw is tt
