-- What the floor of a reader says of its marks.
use Rattle.std.specs.Prelude.{◌≡◌, ◌≤◌, ℕ, List}
use Rattle.index_model.specs.declared.job.CacheKind.TheVariants.{Gdb8}
use Rattle.index_model.specs.Outputs.{Subject}
use Rattle.index_model.specs.Stages.{IsReachable, stopped}

-- what no mark up to a floor is above: 5, or a stage that isn't below one which the floor reaches
pub data HasMost (most floor : ℕ) : Type 0 where
  any : most ≡ stopped → HasMost most floor
  until : (stage : ℕ) → IsReachable floor stage → stage ≤ most → HasMost most floor

-- the subject of a board is these bytes, with a `.gdb_index` of version 8
pub record IsOver (file : List ℕ) (s : Subject) : Type 0 where
  pub file_is : s.file ≡ file
  pub cache_is : s.cache ≡ Gdb8
