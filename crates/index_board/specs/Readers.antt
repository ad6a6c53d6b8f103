-- What contracts see of a reader, and what holds of it.
use Rattle.std.specs.Prelude.{◌≡◌, false}
use Rattle.index_model.specs.Outputs.{Subject}
use Rattle.index_model.specs.Parts.{Parts}
use Rattle.stage_core.specs.Machines.{Machine}
use Rattle.stage_lock.specs.Seen.{Lock, Seen, IsPassOf}
use Rattle.index_board.specs.Kept.{AreOf}

-- its board, its pass and the parts that it keeps
pub record Reader : Type 0 where
  pub board : Lock Subject
  pub pass : Seen Machine Subject
  pub kept : Parts

-- the pass is one of the board and doesn't hold the value, and each kept part is what the board's file means
pub record IsWell (r : Reader) : Type 0 where
  pub own : IsPassOf r.board r.pass
  pub idle : r.pass.holding ≡ false
  pub kept : AreOf r.board.subject r.kept
