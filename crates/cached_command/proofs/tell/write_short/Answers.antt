use Rattle.std.proofs.Common.{ℕ, List, sym, subst}
use Rattle.std.proofs.lemmas.Result.{on_ok_weaker, on_err_weaker}
use Rattle.index_model.specs.Seen.{answer_seen}
use Rattle.outside.specs.Written.{Appends, AppendsPrefix}
use Rattle.query_text.proofs.TextLaws.{answered_text}
use Rattle.cached_command.proofs.tell.write_short.Goals as goal

pub returns-clause-ok : goal.returns-clause-ok
returns-clause-ok g c =
    on_ok_weaker c.write_reply.result (λ p. subst (λ (t : List ℕ). Appends (g.K.Sink.written c.args.out.now) (g.K.Sink.written c.write_reply.new.out) t) (sym (answered_text c.args.spelling (answer_seen c.args.answer))) p) c.write_reply.ensures.ok

pub returns-clause-left : goal.returns-clause-left
returns-clause-left g c =
    on_err_weaker c.write_reply.result (λ p. subst (λ (t : List ℕ). AppendsPrefix (g.K.Sink.written c.args.out.now) (g.K.Sink.written c.write_reply.new.out) t) (sym (answered_text c.args.spelling (answer_seen c.args.answer))) p) c.write_reply.ensures.left
