use Rattle.std.proofs.Common.{subst, sym}
use Rattle.index_model.specs.declared.job.Job.{Job}
use Rattle.index_model.specs.Outputs.{Subject, IsOutputOf}
use Rattle.stage_core.specs.Outputs.{output_seen}
use Rattle.stage_core.specs.Tasks.{task_seen}
use Rattle.index_board.specs.Turns.{Turn, finished}
use Rattle.index_pool.proofs.next_job.do_drawn.Goals as goal

pub finish-requires-clause-output : goal.finish-requires-clause-output
finish-requires-clause-output g c =
    let o = output_seen c.perform-output.result in
    subst (λ (j : Job). IsOutputOf c.args.board.now.subject j o) (sym c.job-job.ensures)
    (subst (λ (s : Subject). IsOutputOf s (task_seen c.args.task).job o) c.requires.drawn.subject (c.perform-output.ensures c.requires.drawn.drawn))

pub returns-clause-finished : goal.returns-clause-finished
returns-clause-finished g c =
    let ended = c.finish.ensures.turn in
    let o = output_seen c.perform-output.result in
    record {
      output = o;
      refused = ended.1;
      is_output = subst (λ (s : Subject). IsOutputOf s (task_seen c.args.task).job o) c.requires.drawn.subject (c.perform-output.ensures c.requires.drawn.drawn);
      after = ended.0;
      turn = subst (λ (j : Job). Turn c.args.board.now c.args.pass.now c.finish.new.pass ended.0 (finished ended.0 j o ended.1)) c.job-job.ensures ended.2;
    }
