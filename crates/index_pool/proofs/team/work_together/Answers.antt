use Rattle.std.proofs.Common.{ℕ, sym, subst}
use Rattle.index_model.specs.Stages.{IsReachable, same}
use Rattle.index_pool.proofs.team.work_together.Goals as goal

pub returns-in_default-clause-reach : goal.returns-in_default-clause-reach
returns-in_default-clause-reach g c = subst (λ (floor : ℕ). IsReachable c.args.pass.now.floor floor) (sym c.gather.ensures.floor) same
