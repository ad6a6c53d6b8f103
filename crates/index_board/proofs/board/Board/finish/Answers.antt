use Rattle.std.proofs.Common.{ap, ◌∙◌}
use Rattle.index_model.specs.Outputs.{Subject}
use Rattle.stage_core.specs.Machines.{Machine}
use Rattle.stage_core.specs.Outputs.{output_seen}
use Rattle.stage_lock.specs.Seen.{Lock}
use Rattle.index_board.specs.Turns.{finished}
use Rattle.index_board.proofs.TurnLaws.{turn_is}
use Rattle.index_board.proofs.board.Board.finish.Goals as goal

pub returns-clause-turn : goal.returns-clause-turn
returns-clause-turn g c =
    let taken : Machine = c.enter-core.result in
    let after : Machine = finished taken c.args.job (output_seen c.args.output) c.finish.result in (
      taken,
      c.finish.result,
      turn_is c.args.self.now c.args.pass.now c.enter-core.new.pass c.leave.new.pass taken c.finish.new.self after
          (c.enter-core.ensures.subject ∙ ap (λ (l : Lock Subject). l.subject) c.self.view_is) c.finish.ensures.follows.reached c.enter-core.ensures.reach c.enter-core.ensures.pass
          c.leave.ensures.reach c.leave.ensures.pass c.finish.ensures.state,
    )
