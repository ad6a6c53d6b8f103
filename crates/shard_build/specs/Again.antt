-- Entries that are read again from the bytes of their unit.
use Rattle.std.specs.Prelude.{◌≡◌, ℕ, ◌-◌, ◌<◌, ◌==◌, nat_eq, filter, if◌then◌else◌, length, get_or, List, Contains, Option, Some, None, option_map, Ok}
use Rattle.std.specs.List.{last_or, AllZip}
use Rattle.indexmap.specs.IndexMap.{IndexMap, get}
use Rattle.index_model.specs.Abbreviations.{Abbrev}
use Rattle.index_model.specs.Faults.{scanned, program_of}
use Rattle.index_model.specs.NodeSeen.{NodeSeen}
use Rattle.index_model.specs.Program.{Walked, Program, located}
use Rattle.index_model.specs.ShardParts.{IsSeenOf}
use Rattle.index_model.specs.Walk.{Item}
use Rattle.entry_scan.specs.Inside.{walked_of}
use Rattle.shard_build.specs.declared.home.UnitInFile.{UnitInFile}

-- the walk of the unit by these abbreviations
abbrev pub walk_by : UnitInFile → List Abbrev → Walked
walk_by h table = walked_of h.unit table h.bytes.now h.number

-- the unit has no fault, and these are its abbreviations
abbrev pub IsSound : UnitInFile → List Abbrev → Type 0
IsSound h table = scanned h.sections.now (h.number, h.unit) ≡ Ok (walk_by h table)

-- ---- whole units

-- the nodes are those of all entries of the unit with the number
pub record IsUnitOf (p : Program) (unit : ℕ) (nodes : List NodeSeen) : Type 0 where
  pub home : Walked
  pub member : Contains p.walks home
  pub number : home.number ≡ unit
  pub are : AllZip (IsSeenOf p.sections) nodes (located home)

-- whatever the program of the file is
abbrev pub AreOfUnit : List ℕ → ℕ → List NodeSeen → Type 0
AreOfUnit file unit nodes = (p : Program) → program_of file ≡ Ok p → IsUnitOf p unit nodes

-- so are the nodes that are kept of each unit
abbrev pub AreOfUnits : {S : Type 0} → List ℕ → IndexMap ℕ (List NodeSeen) S → Type 0
AreOfUnits file known = (unit : ℕ) (nodes : List NodeSeen) → get nat_eq known unit ≡ Some nodes → AreOfUnit file unit nodes

-- ---- parents

-- the offset of the last of these entries that has the depth, if one has it
abbrev pub last_at : ℕ → List Item → Option ℕ
last_at depth passed = option_map (λ e. e.at) (last_or None (filter (λ e. e.depth == depth) passed))

-- the offsets are those of the last entry of each depth
pub record AreLast (passed : List Item) (offsets : List (Option ℕ)) : Type 0 where
  pub size : length offsets ≡ 1025
  pub last : (depth : ℕ) (other : Option ℕ) → depth < 1025 → get_or offsets depth other ≡ last_at depth passed

-- the offset of the parent of an entry that stands behind these
abbrev pub parent_behind : List Item → Item → Option ℕ
parent_behind passed d = if d.depth == 0 then None else last_at (d.depth - 1) passed
