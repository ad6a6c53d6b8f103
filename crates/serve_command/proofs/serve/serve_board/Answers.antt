use Rattle.std.proofs.Common.{ap, sym, subst, refl}
use Rattle.index_model.specs.Stages.{initial, IsReachable}
use Rattle.serve_command.proofs.ListenLaws.{wrote_behind}
use Rattle.serve_command.proofs.serve.serve_board.Goals as goal

pub listen_beside-listened-requires-clause-reached :
    goal.listen_beside-listened-requires-clause-reached
listen_beside-listened-requires-clause-reached g c κs within =
    subst (IsReachable initial) (sym (ap (λ r. r.pass.floor) c.reader-reader.ensures.reader)) c.requires.reached

pub returns-clause-wrote : goal.returns-clause-wrote
returns-clause-wrote g c =
    let both = c.listen_beside-listened in
    let floor = both.new.listener.reader.pass.floor in
    -- no other stage is reachable from the end of the build, so the reader's floor reaches it
    let reach = subst (IsReachable floor) (both.ensures.last c.join.new.pass.floor c.join.ensures.reach) (subst (λ p. IsReachable p.floor c.join.new.pass.floor) c.end.ensures.pass c.join.ensures.other_reach) in
    wrote_behind c.args.spelling c.args.board.now.subject.file c.args.wait _ _ _ c.args.board.now.subject refl floor both.new.pass.floor reach both.ensures.fits _ both.result.0 both.result.1 c.status_behind.result (ap (λ r. r.board.subject.file) c.reader-reader.ensures.reader)
    both.ensures.text both.ensures.ended c.status_behind.ensures
