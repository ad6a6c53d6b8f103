use Rattle.std.proofs.Common.{◌≡◌, false}
use Rattle.index_model.specs.Stages.{IsReachable}
use Rattle.stage_lock.specs.Seen.{IsPassOf}
use Rattle.index_pool.proofs.pool.work_to.Given as goal

abbrev pub invariant-loop : goal.invariant-loop
invariant-loop g l = IsPassOf l.board l.pass × (l.pass.holding ≡ false) × IsReachable l.initial.pass.floor l.pass.floor
