-- A file's shards, and what the references of their runs give.
use Rattle.std.specs.Prelude.{◌≡◌, ℕ, List, [], flat_map, unwrap_or, slice_get, Ok}
use Rattle.file_image.specs.Images.{Image}
use Rattle.index_model.specs.declared.shard.Linked.{Linked}
use Rattle.index_model.specs.declared.shard.LinkedEntry.{LinkedEntry}
use Rattle.index_model.specs.declared.shard.Shard.{Shard}
use Rattle.index_model.specs.Faults.{program_of, links_of}
use Rattle.index_model.specs.Links.{Link, links_in}
use Rattle.index_model.specs.Program.{Program}
use Rattle.index_model.specs.Shards.{AreShardsOf}
use Rattle.range_lists.specs.Units.{AreLinkedOf}

-- the shards are those of consecutive runs that make up all units of the file, and these are what the references of the runs give
pub record AreLinkedOfFile (image : Image) (shards : List Shard) (linked : List Linked) : Type 0 where
  pub program : Program
  pub is : program_of image.file ≡ Ok program
  pub are : AreShardsOf program shards
  pub links : AreLinkedOf program shards are linked

-- Whatever the program of the file and the runs of its shards are: what holds of the links of run k.
abbrev pub ForLinkedRun : Image → List Shard → List Linked → ℕ → (Program → List Link → Type 0) → Type 0
ForLinkedRun image shards linked k Holds = (p : Program) → program_of image.file ≡ Ok p → (h : AreShardsOf p shards) → AreLinkedOf p shards h linked →
    (ks : List Link) → links_in p (unwrap_or (slice_get h.runs k) []) ≡ Ok ks → Holds p ks

-- what is said of the indexed entries of all runs, in section order
abbrev pub all_linked : List Linked → List LinkedEntry
all_linked linked = flat_map (λ l. l.entries) linked

-- whatever the program of the file and its links are
abbrev pub ForLinks : Image → (Program → List Link → Type 0) → Type 0
ForLinks image Holds = (p : Program) → program_of image.file ≡ Ok p → (ks : List Link) → links_of p ≡ Ok ks → Holds p ks
