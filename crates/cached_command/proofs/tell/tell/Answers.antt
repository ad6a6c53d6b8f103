use Rattle.std.proofs.lemmas.Result.{on_err_weaker}
use Rattle.query_text.specs.Questions.{question_seen}
use Rattle.query_text.proofs.SendingLaws.{on_err}
use Rattle.cached_command.proofs.TellingLaws.{behind, cut}
use Rattle.cached_command.proofs.tell.tell.Goals as goal

pub returns-in_err-write_all-clause-left : goal.returns-in_err-write_all-clause-left
returns-in_err-write_all-clause-left g c =
    on_err c.from_residual.result (cut c.args.index.now (question_seen c.args.question.now) (g.K.Sink.written c.args.out.now) (g.K.Sink.written c.write_all.new.out) (g.K.Sink.written c.write_all.new.out) c.args.front.now c.requires c.in_err-write_all.ensures.left)

pub returns-clause-left : goal.returns-clause-left
returns-clause-left g c =
    on_err_weaker c.write_answer.result (behind c.args.index.now (question_seen c.args.question.now) (g.K.Sink.written c.args.out.now) (g.K.Sink.written c.write_all.new.out) (g.K.Sink.written c.write_answer.new.out) c.args.front.now (λ answer. answer) c.in_ok-write_all.ensures.ok) c.write_answer.ensures.left
