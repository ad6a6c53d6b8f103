-- What is told of the units of a program, and what is answered (DWARF 5, 3.1.1 and 3.2.5).
use Rattle.std.specs.Prelude.{◌≡◌, ℕ, List, map, flat_map, Option, option_map, Ok}
use Rattle.index_model.specs.declared.shard.Import.{Import}
use Rattle.index_model.specs.Program.{Walked, Program, root_of}
use Rattle.index_model.specs.Faults.{program_of}
use Rattle.index_model.specs.ShardParts.{imports_in}
use Rattle.gdb_entries.specs.Owners.{is_partial, owner_of}
use Rattle.gdb_units.specs.declared.units.UnitRoot.{UnitRoot}

-- what is told of a unit
unfoldable pub root_facts : Walked → UnitRoot
root_facts w = record { offset = option_map (λ d. d.at) (root_of w); partial = is_partial w }

-- these are told of the units of the program
abbrev pub AreUnitsOf : Program → List UnitRoot → Type 0
AreUnitsOf p units = units ≡ map root_facts p.walks

-- these are the imports of all units
abbrev pub AreImportsOf : Program → List Import → Type 0
AreImportsOf p imports = imports ≡ flat_map (imports_in p.sections) p.walks

-- of each unit the number of its owner, if it has one
abbrev pub AreOwnersOf : Program → List (Option ℕ) → Type 0
AreOwnersOf p owners = owners ≡ map (λ w. option_map (λ o. o.number) (owner_of p w)) p.walks

-- whatever file they are told of
abbrev pub AreOwnersFor : List UnitRoot → List Import → List (Option ℕ) → Type 0
AreOwnersFor units imports owners = (f : List ℕ) (p : Program) → program_of f ≡ Ok p → AreUnitsOf p units → AreImportsOf p imports → AreOwnersOf p owners
