-- The laws of an index that is kept by its program's build-id, as statements.
use Rattle.std.specs.Prelude.{◌≡◌, ◌<◌, ℕ, List, length, take, Ok, IsOk, IsErr}
use Rattle.index_model.specs.declared.job.CacheKind.TheVariants.{Gdb9}
use Rattle.index_model.specs.Cache.{GdbBytes, cache_in}
use Rattle.index_model.specs.Faults.{Built, built_of}
use Rattle.index_model.specs.GdbIndexRead.{gdb_index}
use Rattle.reach_model.specs.BuildIds.{IsBuildId}
use Rattle.reach_model.specs.KeptIndexes.{kept_bytes, kept_index}

-- what is kept reads as the index, whatever its bytes are
abbrev pub IndexesAreKept : Type 0
IndexesAreKept = (id index : List ℕ) → IsBuildId id → kept_index (kept_bytes id index) id ≡ gdb_index index

-- what holds of each build-id with the index of version 9 of an accepted file, where that isn't too large
abbrev OfKeptIndexes : (List ℕ → List ℕ → Type 0) → Type 0
OfKeptIndexes Holds = (file : List ℕ) (b : Built) (index id : List ℕ) → built_of file ≡ Ok b → cache_in Gdb9 b ≡ GdbBytes index → IsBuildId id → Holds id index

-- it opens when it is kept
abbrev pub KeptIndexesOpen : Type 0
KeptIndexesOpen = OfKeptIndexes (λ id index. IsOk (kept_index (kept_bytes id index) id))

-- no proper prefix of what is kept opens
abbrev pub CutIndexesAreRefused : Type 0
CutIndexesAreRefused = OfKeptIndexes (λ id index. (k : ℕ) → k < length (kept_bytes id index) → IsErr (kept_index (take k (kept_bytes id index)) id))
