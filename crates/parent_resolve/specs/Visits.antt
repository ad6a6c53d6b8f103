-- Which of a shard's entries are visited.
use Rattle.std.specs.Prelude.{◌≡◌, ℕ, ◌<◌, List, Bool, true, Contains, length, slice_index_or, Option, Some, None, Ok}
use Rattle.index_model.specs.declared.shard.Node.{Node}
use Rattle.index_model.specs.declared.shard.Root.{Root}
use Rattle.index_model.specs.declared.shard.Shard.{Shard}
use Rattle.index_model.specs.Faults.{program_of}
use Rattle.index_model.specs.Languages.{class_of_unit}
use Rattle.index_model.specs.NodeSeen.{NodeSeen}
use Rattle.index_model.specs.Program.{Walked, Program, Located, items_of}
use Rattle.index_model.specs.Rules.{is_ada, is_visited}
use Rattle.index_model.specs.ShardParts.{IsNodeOf, kept_in}
use Rattle.index_model.specs.Shards.{IsRunOf, StandsFor}
use Rattle.parent_resolve.specs.Importers.{takes_importers_language}

-- Whatever run of a file's units the shard stands for: the answer is whether the entry of the node is visited, if it has a node, where its unit's class is Ada or isn't.
abbrev pub IsVisitedBy : Shard → Node → Bool → Bool → Type 0
IsVisitedBy s node ada answer = (file : List ℕ) (p : Program) (run : List Walked) → program_of file ≡ Ok p → IsRunOf p run → StandsFor p.sections s run →
    (d : Located) → Contains (kept_in run) d → IsNodeOf p.sections node d → ada ≡ is_ada (class_of_unit p d.home) → answer ≡ is_visited ada (items_of d.home) d.item

-- whether a unit with this root is partial and has no language itself
abbrev pub takes_importers_class : Option Root → Bool
takes_importers_class (Some root) = takes_importers_language root
takes_importers_class None = true

-- the node has the offset, and stands at the place, before another
pub record IsNodeAt (nodes : List NodeSeen) (before at place : ℕ) (n : NodeSeen) : Type 0 where
  pub within : place < length nodes
  pub early : place < before
  pub is : n ≡ slice_index_or nodes place n
  pub offset : n.facts.offset ≡ at

-- no node before the place has the offset
abbrev pub HasNoneAt : List NodeSeen → ℕ → ℕ → Type 0
HasNoneAt nodes before offset = (k : ℕ) (n : NodeSeen) → k < before → k < length nodes → (slice_index_or nodes k n).facts.offset ≡ offset → ⊥
