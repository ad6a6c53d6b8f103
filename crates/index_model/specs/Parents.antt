-- The lexical parent of an entry, by the spans of a shard (DWARF 5, 2.3).
use Rattle.std.specs.Prelude.{◌≡◌, ℕ, List, flat_map, Contains, Option, option_map, Ok}
use Rattle.index_model.specs.declared.shard.Shard.{Shard}
use Rattle.index_model.specs.Program.{Walked, Program, Located, located, scope_around}
use Rattle.index_model.specs.Faults.{program_of}
use Rattle.index_model.specs.Shards.{IsRunOf, StandsFor}

-- the joint offset of the lexical parent; a root has none
abbrev pub parent_offset : Located → Option ℕ
parent_offset d = option_map (λ e. e.item.at) (scope_around d)

-- Whatever run of a file's units the Shard stands for: the answer is the parent of the item at the offset.
abbrev pub IsParentAt : Shard → ℕ → Option ℕ → Type 0
IsParentAt s offset answer = (f : List ℕ) (p : Program) (run : List Walked) → program_of f ≡ Ok p → IsRunOf p run → StandsFor p.sections s run →
    (d : Located) → Contains (flat_map located run) d → d.item.at ≡ offset → answer ≡ parent_offset d
