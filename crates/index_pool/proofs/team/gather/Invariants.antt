use Rattle.std.proofs.Common.{◌≡◌, false, vec_len, All}
use Rattle.stage_lock.specs.Seen.{IsPassOf}
use Rattle.index_pool.specs.Teams.{IsOfBoard}
use Rattle.index_pool.proofs.team.gather.Given as goal

abbrev pub invariant-loop-worker : goal.invariant-loop-worker
invariant-loop-worker l = IsPassOf l.board l.pass × (l.pass.holding ≡ false) × (l.pass.floor ≡ l.initial.pass.floor) × (vec_len l.team ≡ l._worker) × All (IsOfBoard l.board) l.team.items
