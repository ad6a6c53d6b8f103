use Rattle.std.proofs.Common.{ap, sym, subst}
use Rattle.index_model.specs.Stages.{initial, IsReachable}
use Rattle.session_base.proofs.SessionBoards.{first_reached}
use Rattle.serve_command.proofs.ListenLaws.{nothing_served}
use Rattle.serve_command.proofs.serve.serve_file.Goals as goal

pub returns-in-Err-clause-wrote : goal.returns-in-Err-clause-wrote
returns-in-Err-clause-wrote g c = nothing_served c.args.spelling c.args.file.now c.args.wait (g.S.Source.left c.args.input.now) (g.S.Source.read_faults c.args.input.now) (g.S.Source.read_faults c.args.input.now) (g.K.Sink.written c.args.out.now)

pub serve_board-status-requires-clause-reached : goal.serve_board-status-requires-clause-reached
serve_board-status-requires-clause-reached g c κs within = subst (IsReachable initial) (sym (ap (λ p. p.floor) c.in-Ok-open.ensures.pass)) (first_reached c.args.file.now)

pub returns-in-Err-open-clause-wrote : goal.returns-in-Err-open-clause-wrote
returns-in-Err-open-clause-wrote g c = nothing_served c.args.spelling c.args.file.now c.args.wait (g.S.Source.left c.args.input.now) (g.S.Source.read_faults c.args.input.now) (g.S.Source.read_faults c.args.input.now) (g.K.Sink.written c.args.out.now)
