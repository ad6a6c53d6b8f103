use Rattle.std.proofs.Common.{rules, refl}
use Rattle.index_model.specs.Stages.{same}
use Rattle.index_model.proofs.StageLaws.{closure}
use Rattle.index_pool.proofs.team.take_in.Goals as goal

pub loop-worker-init : goal.loop-worker-init
loop-worker-init c = record { own = c.requires.own; idle = c.requires.idle; reach = same; others = λ i d from within. refl }

pub loop-worker-preserved : goal.loop-worker-preserved
loop-worker-preserved c = record {
  own = search rules;
  idle = search rules;
  reach = closure.onwards c.args.pass.now.floor c.loop-worker.pass.floor c.join.new.pass.floor c.loop-worker.invariant.reach c.join.ensures.reach;
  others = search rules;
}
