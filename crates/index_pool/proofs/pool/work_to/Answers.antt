use Rattle.index_model.specs.Stages.{same}
use Rattle.index_model.proofs.StageLaws.{closure}
use Rattle.index_pool.proofs.PassLaws.{by_mark}
use Rattle.index_pool.proofs.pool.work_to.Goals as goal

pub loop-init : goal.loop-init
loop-init g c = (c.requires.own, c.requires.idle, same)

pub returns-then-stage-goal-clause-reach : goal.returns-then-stage-goal-clause-reach
returns-then-stage-goal-clause-reach g c = by_mark c.args.pass.now.floor c.loop.pass c.mark-stage.new.pass c.mark-stage.result c.loop.invariant.2 c.mark-stage.ensures.reach c.mark-stage.ensures.pass

pub loop-preserved-then-help : goal.loop-preserved-then-help
loop-preserved-then-help g c = (
  c.help.ensures.own,
  c.help.ensures.idle,
  closure.onwards c.args.pass.now.floor c.mark-stage.new.pass.floor c.help.new.pass.floor
      (by_mark c.args.pass.now.floor c.loop.pass c.mark-stage.new.pass c.mark-stage.result c.loop.invariant.2 c.mark-stage.ensures.reach c.mark-stage.ensures.pass) c.help.ensures.reach,
)

pub loop-preserved : goal.loop-preserved
loop-preserved g c = (
  c.help.ensures.own,
  c.help.ensures.idle,
  closure.onwards c.args.pass.now.floor c.mark-stage.new.pass.floor c.help.new.pass.floor
      (by_mark c.args.pass.now.floor c.loop.pass c.mark-stage.new.pass c.mark-stage.result c.loop.invariant.2 c.mark-stage.ensures.reach c.mark-stage.ensures.pass) c.help.ensures.reach,
)
