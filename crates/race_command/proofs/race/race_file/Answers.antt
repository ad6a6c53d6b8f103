use Rattle.std.proofs.Common.{ap, sym, subst}
use Rattle.index_model.specs.Stages.{initial, IsReachable}
use Rattle.session_base.proofs.SessionBoards.{first_reached}
use Rattle.race_command.proofs.RaceLaws.{none_appended, nothing_raced}
use Rattle.race_command.proofs.race.race_file.Goals as goal

pub race_board-status-requires-clause-reached : goal.race_board-status-requires-clause-reached
race_board-status-requires-clause-reached g c κs within = subst (IsReachable initial) (sym (ap (λ p. p.floor) c.in-Ok.ensures.pass)) (first_reached c.args.file.now)

pub returns-in-Err-clause-wrote : goal.returns-in-Err-clause-wrote
returns-in-Err-clause-wrote g c = nothing_raced c.args.spelling c.args.file.now c.args.readers c.args.script.now (g.K.Sink.written c.args.out.now)

pub returns-in-Err-clause-limit : goal.returns-in-Err-clause-limit
returns-in-Err-clause-limit g c = none_appended (g.K.Sink.written c.args.out.now)
