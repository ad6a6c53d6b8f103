-- The workers of a team.
use Rattle.std.specs.Prelude.{◌≡◌, ◌<◌, ℕ, List, length, get_or}
use Rattle.index_model.specs.Outputs.{Subject}
use Rattle.stage_lock.specs.Seen.{Lock}
use Rattle.index_pool.specs.declared.worker.Worker.{Worker}

-- a worker at this board
abbrev pub IsOfBoard : Lock Subject → Worker → Type 0
IsOfBoard board w = w.board.now ≡ board

-- each worker is at the board where it was
pub record HaveStayed (old new : List Worker) : Type 0 where
  pub count : length new ≡ length old
  pub each : (i : ℕ) (d : Worker) → i < length old → (get_or new i d).board.now ≡ (get_or old i d).board.now
