-- The class of a unit's language.
use Rattle.std.specs.Prelude.{◌≡◌, ℕ, List, Contains, Ok}
use Rattle.index_model.specs.declared.rules.Class.{Class}
use Rattle.index_model.specs.declared.shard.Shard.{Shard}
use Rattle.index_model.specs.Program.{Walked, Program}
use Rattle.index_model.specs.Languages.{class_of_unit}
use Rattle.index_model.specs.Faults.{program_of}
use Rattle.index_model.specs.Shards.{AreShardsOf}

-- whatever file the shards are of: this is the class of its unit with the number
abbrev pub IsClassAt : List Shard → ℕ → Class → Type 0
IsClassAt shards unit class = (f : List ℕ) (p : Program) → program_of f ≡ Ok p → AreShardsOf p shards → (w : Walked) → Contains p.walks w → w.number ≡ unit → class ≡ class_of_unit p w
