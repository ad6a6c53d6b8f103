-- Runs of elements of units in the constant pool.
use Rattle.std.specs.Prelude.{◌≡◌, ◌<◌, ℕ, ◌+◌, ◌*◌, true, nat_lt, List, slice_index}
use Rattle.std.specs.Option.{ForSome}
use Rattle.index_model.specs.GdbIndexRead.{unit_in}
use Rattle.index_model.specs.Layout.{field}
use Rattle.gdbindex_read.specs.declared.runs.VectorsSeen.{VectorsSeen}

-- so many numbers from a place on, one after the other, are elements of units
abbrev pub IsRun : List ℕ → ℕ → ℕ → ℕ → Type 0
IsRun pool units place count = (i : ℕ) → i < count → nat_lt (unit_in (field 4 (place + 4 * i) pool)) units ≡ true

-- as many as each of these lengths says at its place
abbrev pub AreRuns : List ℕ → ℕ → List ℕ → Type 0
AreRuns pool units lengths = (place : ℕ) → IsRun pool units place (slice_index lengths place)

-- the runs that are known are those of the pool
abbrev pub AreKnown : List ℕ → ℕ → VectorsSeen → Type 0
AreKnown pool units v = ForSome v.runs (λ r. AreRuns pool units r.lengths.items)
