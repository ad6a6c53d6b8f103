-- The language of a unit, by what shards keep of roots and imports (DWARF 5, 3.1.1 and 3.2.5).
use Rattle.std.specs.Prelude.{◌≡◌, ℕ, ◌-◌, nat_le, ◌==◌, if◌then◌else◌, List, [], ◌∷◌, Contains, slice_get, find, Option, None, option_map, option_and_then, Ok}
use Rattle.std.specs.List.Sorted.{IsNonDecreasingBy}
use Rattle.std.specs.Option.{option_or}
use Rattle.index_model.specs.declared.shard.Root.{Root}
use Rattle.index_model.specs.declared.shard.Import.{Import}
use Rattle.index_model.specs.declared.shard.Shard.{Shard}
use Rattle.index_model.specs.NodeSeen.{NodeSeen}
use Rattle.index_model.specs.Program.{Walked, Program}
use Rattle.index_model.specs.Languages.{language_of}
use Rattle.index_model.specs.Faults.{program_of}
use Rattle.index_model.specs.Shards.{AreShardsOf}

-- Whatever file the shards are of: the answer is the language of its unit with the number.
abbrev pub IsLanguageAt : List Shard → ℕ → ℕ → Type 0
IsLanguageAt shards unit answer = (f : List ℕ) (p : Program) → program_of f ≡ Ok p → AreShardsOf p shards →
    (w : Walked) → Contains p.walks w → w.number ≡ unit → answer ≡ language_of p w

-- ---- what one shard says

-- the first value that f gives
abbrev pub first_some : {A B : Type 0} → (A → Option B) → List A → Option B
first_some f [] = None
first_some f (x ∷ xs) = option_or (f x) (first_some f xs)

-- the root of a unit, if the unit is one of the shard's run
abbrev pub root_in : ℕ → Shard → Option Root
root_in unit s = if nat_le s.first unit then slice_get s.roots (unit - s.first) else None

-- the offset of the first node that isn't before the unit; where the unit has a root this is the root's
abbrev pub first_node : ℕ → List NodeSeen → Option ℕ
first_node unit nodes = option_map (λ n. n.facts.offset) (find (λ n. nat_le unit n.facts.unit) nodes)

-- the same, in the nodes of a shard
abbrev pub node_in : ℕ → Shard → Option ℕ
node_in unit s = first_node unit s.nodes

-- the language that the importing unit itself has, where the import names the offset
abbrev pub imported_from : Shard → ℕ → Import → Option ℕ
imported_from s offset i = if i.target == offset then option_and_then (λ r. r.language) (root_in i.unit s) else None

-- the language of the shard's first unit that has one itself and imports the entry at the offset
abbrev pub importing_in : ℕ → Shard → Option ℕ
importing_in offset s = first_some (imported_from s offset) s.imports

-- ---- what all of them say

-- the nodes stand in the order of their units
abbrev pub NodesRise : Shard → Type 0
NodesRise s = IsNonDecreasingBy (λ n. n.facts.unit) s.nodes

-- the language of the unit's root, else that of the unit that imports a partial unit
abbrev pub language_by_root : List Shard → ℕ → Root → Option ℕ
language_by_root shards unit root =
    let importing = option_and_then (λ o. first_some (importing_in o) shards) (first_some (node_in unit) shards) in
    option_or root.language (if root.partial then importing else None)
