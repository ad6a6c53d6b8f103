-- The law of the unit at an address.
use Rattle.std.specs.Prelude.{◌≡◌, ◌≤◌, ℕ, IsTrue, List, Contains, Option, Some, None, Ok}
use Rattle.index_model.specs.declared.range.UnitRange.{UnitRange}
use Rattle.index_model.specs.Ranges.{contains, unit_at}
use Rattle.index_model.specs.Faults.{Built, built_of}

-- the least unit with a range that contains the address; none, where no range contains it
abbrev pub IsLeastUnit : List UnitRange → ℕ → Option ℕ → Type 0
IsLeastUnit us a None = (u : UnitRange) → Contains us u → ¬ IsTrue (contains a u.range)
IsLeastUnit us a (Some n) =
    (u : UnitRange) × Contains us u × IsTrue (contains a u.range) × (u.unit ≡ n)
    × ((v : UnitRange) → Contains us v → IsTrue (contains a v.range) → n ≤ v.unit)

-- the unit at an address of a file without a fault
abbrev pub UnitAtIsLeast : Type 0
UnitAtIsLeast = (f : List ℕ) (b : Built) (a : ℕ) → built_of f ≡ Ok b → IsLeastUnit b.ranges a (unit_at b.ranges a)
