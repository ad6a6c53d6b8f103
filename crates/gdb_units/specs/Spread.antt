-- Which unit owns which, by what each imports itself.
use Rattle.std.specs.Prelude.{◌≡◌, ℕ, zero, suc, ◌+◌, ◌*◌, ◌<◌, ◌≤◌, Bool, true, false, if◌then◌else◌, List, length, map, slice_get, slice_index_or, Contains, is_none, Option, Some, None}
use Rattle.std.specs.List.{enumerate_from, count_by}
use mathlib.Core.Logic.{◌⊎◌}
use Rattle.gdb_units.specs.declared.units.UnitRoot.{UnitRoot}

-- the owner of a unit so far
abbrev pub owner_at : List (Option ℕ) → ℕ → Option ℕ
owner_at owners u = slice_index_or owners u None

-- how many have no owner yet
abbrev pub count_free : List (Option ℕ) → ℕ
count_free owners = count_by is_none owners

-- the slot of a unit is there, and free
abbrev pub free_slot : Option (Option ℕ) → Bool
free_slot (Some None) = true
free_slot (Some (Some o)) = false
free_slot None = false

-- there is such a unit, and it has no owner yet
abbrev pub is_free : List (Option ℕ) → ℕ → Bool
is_free owners u = free_slot (slice_get owners u)

-- it has an owner
abbrev pub IsOwned : List (Option ℕ) → ℕ → Type 0
IsOwned owners u = (o : ℕ) × (owner_at owners u ≡ Some o)

-- whether the unit is partial
abbrev pub partial_of : Option UnitRoot → Bool
partial_of (Some u) = u.partial
partial_of None = false

-- whether the unit with this number is partial
abbrev pub is_partial_at : List UnitRoot → ℕ → Bool
is_partial_at units u = partial_of (slice_get units u)

-- a unit that isn't partial owns itself
abbrev pub alone_of : ℕ × UnitRoot → Option ℕ
alone_of u = if u.1.partial then None else Some u.0

-- no other unit owns any
abbrev pub own_alone : List UnitRoot → List (Option ℕ)
own_alone units = map alone_of (enumerate_from 0 units)

-- ---- by what each imports

-- u imports v, itself or through fewer than n others
abbrev pub Leads : (ℕ → List ℕ) → ℕ → ℕ → ℕ → Type 0
Leads targets zero u v = ⊥
Leads targets (suc n) u v = (t : ℕ) × Contains (targets u) t × ((t ≡ v) ⊎ Leads targets n t v)

-- The owner took those of these units that were free, and no other; they are waiting now.
pub record Claims (units : List ℕ) (owner : ℕ) (old : List (Option ℕ)) (waited : List ℕ) (new : List (Option ℕ)) (waits : List ℕ) : Type 0 where
  pub long : length new ≡ length old
  pub keeps : (u o : ℕ) → owner_at old u ≡ Some o → owner_at new u ≡ Some o
  pub takes : (u o : ℕ) → owner_at new u ≡ Some o → (owner_at old u ≡ Some o) ⊎ ((o ≡ owner) × (owner_at old u ≡ None) × Contains units u × (count_free new < count_free old))
  pub all : (u : ℕ) → Contains units u → u < length old → IsOwned new u
  pub still : (u : ℕ) → Contains waited u → Contains waits u
  pub joins : (u : ℕ) → Contains waits u → Contains waited u ⊎ ((owner_at old u ≡ None) × (owner_at new u ≡ Some owner))
  pub queued : (u o : ℕ) → owner_at old u ≡ None → owner_at new u ≡ Some o → Contains waits u
  pub fewer : count_free new ≤ count_free old
  pub work : 2 * count_free new + length waits ≤ 2 * count_free old + length waited

-- what the owner took on a way to here
abbrev pub IsTaken : ℕ → List (Option ℕ) → List (Option ℕ) → ℕ → Type 0
IsTaken owner old new u = (u ≡ owner) ⊎ ((owner_at old u ≡ None) × (owner_at new u ≡ Some owner))

-- The owner took the free units to which it leads through what was free.
pub record Spreads (targets : ℕ → List ℕ) (owner : ℕ) (old new : List (Option ℕ)) : Type 0 where
  pub keeps : (u o : ℕ) → owner_at old u ≡ Some o → owner_at new u ≡ Some o
  pub takes : (u o : ℕ) → owner_at new u ≡ Some o → (owner_at old u ≡ Some o) ⊎ ((o ≡ owner) × (owner_at old u ≡ None) × Leads targets (length old) owner u)
  pub onwards : (u t : ℕ) → IsTaken owner old new u → Contains (targets u) t → t < length old → IsOwned new t

-- Each unit has the owner that is the first of those below n.
pub record OwnedBelow (n : ℕ) (units : List UnitRoot) (targets : ℕ → List ℕ) (owners : List (Option ℕ)) : Type 0 where
  pub long : length owners ≡ length units
  pub alone : (u : ℕ) → u < length units → is_partial_at units u ≡ false → owner_at owners u ≡ Some u
  pub leads : (u o : ℕ) → is_partial_at units u ≡ true → owner_at owners u ≡ Some o → (o < n) × (is_partial_at units o ≡ false) × Leads targets (length units) o u
  pub first : ((u t : ℕ) → u < length units → Contains (targets u) t → is_partial_at units t ≡ true) → (m u w : ℕ) → w < n → is_partial_at units w ≡ false → Leads targets m w u → (o : ℕ) × (o ≤ w) × (owner_at owners u ≡ Some o)
