use Rattle.std.proofs.Common.{◌++◌}
use Rattle.std.proofs.lemmas.Result.{on_err_weaker}
use Rattle.query_text.specs.Questions.{question_seen}
use Rattle.query_text.proofs.SendingLaws.{on_err}
use Rattle.cached_command.proofs.TellingLaws.{behind, cut_first}
use Rattle.cached_command.proofs.tell.tell_behind.Goals as goal

pub returns-in_err-write_all-clause-left : goal.returns-in_err-write_all-clause-left
returns-in_err-write_all-clause-left g c =
    on_err c.from_residual.result (cut_first c.args.index.now (question_seen c.args.question.now) (g.K.Sink.written c.args.out.now) (g.K.Sink.written c.write_all.new.out) c.args.first.now c.args.second.now c.requires c.in_err-write_all.ensures.left)

pub returns-clause-left : goal.returns-clause-left
returns-clause-left g c =
    on_err_weaker c.tell.result (behind c.args.index.now (question_seen c.args.question.now) (g.K.Sink.written c.args.out.now) (g.K.Sink.written c.write_all.new.out) (g.K.Sink.written c.tell.new.out) c.args.first.now (λ answer. c.args.second.now ++ answer) c.in_ok-write_all.ensures.ok) c.tell.ensures.left
