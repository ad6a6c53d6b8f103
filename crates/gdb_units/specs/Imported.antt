-- Which partial units a unit imports itself, by what is told of the units.
use Rattle.std.specs.Prelude.{ℕ, ◌==◌, if◌then◌else◌, List, [], ◌∷◌, ◌++◌, map, filter, filter_map, find, slice_index_or, Vec, Option, None, option_map}
use Rattle.std.specs.List.{enumerate_from}
use Rattle.std.specs.List.Sorted.{IsNonDecreasingBy}
use Rattle.std.specs.declared.alloc.Global.{Global}
use Rattle.index_model.specs.declared.shard.Import.{Import}
use Rattle.gdb_units.specs.declared.units.UnitRoot.{UnitRoot}
use Rattle.gdb_units.specs.declared.partial_roots.PartialRoot.{PartialRoot}

-- the root of the unit with this number, if it is that of a partial one
abbrev pub partial_root : ℕ × UnitRoot → Option PartialRoot
partial_root u = if u.1.partial then option_map (λ o. record { offset = o; unit = u.0 }) u.1.offset else None

-- the roots of the partial units, in section order
abbrev pub partial_roots : List UnitRoot → List PartialRoot
partial_roots units = filter_map partial_root (enumerate_from 0 units)

-- they stand in the order of their units
abbrev pub RootsRise : List UnitRoot → Type 0
RootsRise units = IsNonDecreasingBy (λ r. r.offset) (partial_roots units)

-- the partial unit of these whose root stands at the offset
abbrev pub unit_at : List PartialRoot → ℕ → Option ℕ
unit_at roots o = option_map (λ r. r.unit) (find (λ r. r.offset == o) roots)

-- the partial units that the unit imports itself
abbrev pub targets_of : List UnitRoot → ℕ → List Import → List ℕ
targets_of units u imports = filter_map (λ i. unit_at (partial_roots units) i.target) (filter (λ i. i.unit == u) imports)

-- ---- as they are kept

-- what is kept of a unit
abbrev pub targets_in : List (Vec ℕ Global) → ℕ → List ℕ
targets_in targets u = slice_index_or (map (λ own. own.items) targets) u []

-- one more of one unit
abbrev pub with_target : ℕ → ℕ → ℕ → List ℕ → List ℕ
with_target unit target u own = if unit == u then own ++ target ∷ [] else own
