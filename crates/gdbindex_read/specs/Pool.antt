-- What stands in the constant pool.
use Rattle.std.specs.Prelude.{ℕ, ◌+◌, ◌*◌, ◌/◌, Bool, false, ◌&&◌, nat_le, nat_lt, if◌then◌else◌, List, length, drop, map, Option, Some, None}
use Rattle.std.specs.List.{list_all}
use Rattle.ix_base.specs.Reading.{before_zero}
use Rattle.index_model.specs.GdbIndexRead.{unit_in}
use Rattle.index_model.specs.Layout.{below, field}

-- the string at an offset, if it has an end
abbrev pub string_in : List ℕ → ℕ → Option (List ℕ)
string_in pool offset = if nat_le offset (length pool) then before_zero (drop offset pool) else None

-- the elements behind their number at an offset, if all lie in the pool
abbrev pub vector_in : List ℕ → ℕ → Option (List ℕ)
vector_in pool offset =
    let count = field 4 offset pool in
    let elements = map (λ k. field 4 (offset + 4 + 4 * k) pool) (below (if nat_le (4 * count) (length pool) then count else 0)) in
    if nat_le (offset + 4) (length pool) && nat_le (offset + 4 + 4 * count) (length pool) then Some elements else None

-- the numbers of 4 bytes that stand one after the other
abbrev pub elements_seen : List ℕ → List ℕ
elements_seen bytes = map (λ k. field 4 (4 * k) bytes) (below (length bytes / 4))

-- there is a vector, and each of its elements has one of so many units
abbrev pub are_of_units : ℕ → Option (List ℕ) → Bool
are_of_units units None = false
are_of_units units (Some elements) = list_all (λ e. nat_lt (unit_in e) units) elements
