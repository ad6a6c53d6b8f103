-- The entries of a file, by its image and the shards of its units.
use Rattle.std.specs.Prelude.{◌≡◌, ℕ, List, Contains, Option, Some, None, option_and_then, Ok, ⊤}
use Rattle.file_image.specs.Images.{Image}
use Rattle.index_model.specs.declared.shard.Next.{Next}
use Rattle.index_model.specs.declared.shard.Node.{Node}
use Rattle.index_model.specs.declared.shard.Shard.{Shard}
use Rattle.index_model.specs.Attributes.{Reference}
use Rattle.index_model.specs.Faults.{program_of}
use Rattle.index_model.specs.Program.{Walked, Program, Located, item_with_offset}
use Rattle.index_model.specs.References.{target_of}
use Rattle.index_model.specs.Sections.{Section}
use Rattle.index_model.specs.ShardParts.{IsNodeOf, as_next}
use Rattle.index_model.specs.Shards.{AreShardsOf}

-- a file's image, and the shards of its units
pub record EntriesOf : Type 0 where
  pub image : Image
  pub shards : List Shard

-- the shards stand for consecutive runs that make up all units of the file
pub record AreShardsOfFile (image : Image) (shards : List Shard) : Type 0 where
  pub program : Program
  pub is : program_of image.file ≡ Ok program
  pub are : AreShardsOf program shards

-- whatever the program of the file is
abbrev pub ForProgram : EntriesOf → (Program → Type 0) → Type 0
ForProgram e Holds = (p : Program) → program_of e.image.file ≡ Ok p → Holds p

-- the node is that of the entry, or there is neither
abbrev pub IsNodeIn : List Section → Option Node → Option Located → Type 0
IsNodeIn ss None None = ⊤
IsNodeIn ss None (Some d) = ⊥
IsNodeIn ss (Some n) None = ⊥
IsNodeIn ss (Some n) (Some d) = IsNodeOf ss n d

-- the entry that a reference of a unit's entry names, if it names one
abbrev pub entry_meant : Program → Walked → Reference → Option Located
entry_meant p w r = option_and_then (item_with_offset p) (target_of p.sections w r)

-- the answer is the joint offset that the reference names in an entry of the unit with the number
abbrev pub IsTargetOf : List ℕ → ℕ → Next → Option ℕ → Type 0
IsTargetOf f unit reference answer = (p : Program) → program_of f ≡ Ok p → (w : Walked) → Contains p.walks w → w.number ≡ unit → (r : Reference) → reference ≡ as_next r → answer ≡ target_of p.sections w r
