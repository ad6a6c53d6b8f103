use Rattle.index_model.proofs.StageLaws.{closure}
use Rattle.index_pool.proofs.pool.build_to.Goals as goal

pub returns-clause-reach : goal.returns-clause-reach
returns-clause-reach g c = closure.onwards c.args.pass.now.floor c.work_together.new.pass.floor c.work_to.new.pass.floor c.work_together.ensures.reach c.work_to.ensures.reach
