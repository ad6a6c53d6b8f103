use Rattle.std.proofs.Common.{◌≡◌, ◌<◌, ◌≤◌, ℕ, false, length, get_or}
use Rattle.index_model.specs.Stages.{IsReachable}
use Rattle.stage_lock.specs.Seen.{IsPassOf}
use Rattle.index_pool.specs.declared.worker.Worker.{Worker}
use Rattle.index_pool.proofs.team.take_in.Given as goal

-- the workers to come are as they were
abbrev pub invariant-loop-worker : goal.invariant-loop-worker
invariant-loop-worker l = record {
  own : IsPassOf l.board l.pass;
  idle : l.pass.holding ≡ false;
  reach : IsReachable l.initial.pass.floor l.pass.floor;
  others : (i : ℕ) (d : Worker) → l.worker-index ≤ i → i < length l.initial.team → get_or l.team i d ≡ get_or l.initial.team i d;
}
