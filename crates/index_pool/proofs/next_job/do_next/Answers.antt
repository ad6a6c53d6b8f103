use Rattle.std.proofs.Common.{sym}
use Rattle.stage_core.specs.Tasks.{task_seen}
use Rattle.index_board.specs.Turns.{drawn, finished}
use Rattle.index_model.proofs.StageLaws.{closure}
use Rattle.index_pool.proofs.JobLaws.{drawn_from}
use Rattle.index_pool.proofs.PassLaws.{by_turn}
use Rattle.index_pool.proofs.next_job.do_next.Goals as goal

pub do_drawn-requires-clause-drawn : goal.do_drawn-requires-clause-drawn
do_drawn-requires-clause-drawn g c κs within =
    let drew = c.in-Some.ensures.turn in
    drawn_from c.args.board.now c.args.image.now c.requires.image c.args.pass.now c.draw.new.pass drew.0 drew.1 (task_seen c.in-Some.task) drew.2

pub returns-clause-reach : goal.returns-clause-reach
returns-clause-reach g c =
    let drew = c.in-Some.ensures.turn in
    let ended = c.do_drawn.ensures.finished in
    closure.onwards c.args.pass.now.floor c.draw.new.pass.floor c.do_drawn.new.pass.floor
    (by_turn c.args.board.now c.args.pass.now c.draw.new.pass drew.0 (drawn drew.0) drew.1)
    (by_turn c.args.board.now c.draw.new.pass c.do_drawn.new.pass ended.after (finished ended.after (task_seen c.in-Some.task).job ended.output ended.refused) ended.turn)

pub returns-clause-done : goal.returns-clause-done
returns-clause-done g c _ =
    let drew = c.in-Some.ensures.turn in
    record {
      task = task_seen c.in-Some.task;
      before = drew.0;
      between = c.draw.new.pass;
      draw = drew.1;
      next = sym drew.2;
      finish = c.do_drawn.ensures.finished;
    }
