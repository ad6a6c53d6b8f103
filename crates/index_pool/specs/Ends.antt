-- How a build ends.
use Rattle.std.specs.Prelude.{◌≡◌, ℕ}
use Rattle.index_model.specs.Stages.{IsReachable, cache_written, refused, stopped}
use Rattle.index_pool.specs.declared.ended.Ended.{Ended}
use Rattle.index_pool.specs.declared.ended.Ended.TheVariants.{Done, Refused, Stopped}

-- the stage of each end
abbrev pub stage_at_end : Ended → ℕ
stage_at_end Done = cache_written
stage_at_end Refused = refused
stage_at_end Stopped = stopped

-- no other stage is reachable from this one
abbrev pub IsLast : ℕ → Type 0
IsLast s = (t : ℕ) → IsReachable s t → t ≡ s
