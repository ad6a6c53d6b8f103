use Rattle.std.proofs.Common.{ℕ, List, ◌++◌, subst}
use Rattle.std.proofs.lemmas.Result.{on_ok_weaker, on_err_weaker}
use Rattle.outside.specs.Written.{AppendsPrefix}
use Rattle.index_model.specs.Seen.{reply_seen}
use Rattle.index_model.specs.Texts.{text_of_reply}
use Rattle.query_text.specs.Spelled.{reply_in}
use Rattle.query_text.specs.Sending.{Sends}
use Rattle.query_text.proofs.SendingLaws.{on_err, sends_all, sends_part}
use Rattle.query_text.proofs.reply.write_reply.Goals as goal

pub returns-in_err-send_reply-clause-left : goal.returns-in_err-send_reply-clause-left
returns-in_err-send_reply-clause-left g c =
    on_err c.from_residual.result (subst (λ (w : List ℕ). AppendsPrefix (g.K.Sink.written c.args.out.now) (g.K.Sink.written c.send_reply.new.out) (w ++ text_of_reply (reply_in c.args.spelling (reply_seen c.args.reply.now)))) c.new-waiting.ensures c.in_err-send_reply.ensures.left)

pub returns-clause-ok : goal.returns-clause-ok
returns-clause-ok g c =
    let text = text_of_reply (reply_in c.args.spelling (reply_seen c.args.reply.now)) in
    let p = subst (λ (w : List ℕ). Sends (g.K.Sink.written c.args.out.now) w (g.K.Sink.written c.send_reply.new.out) c.send_reply.new.waiting text) c.new-waiting.ensures c.in_ok-send_reply.ensures.ok in
    on_ok_weaker c.flush.result (λ q. sends_all _ _ c.send_reply.new.waiting text p _ q) c.flush.ensures.ok

pub returns-clause-left : goal.returns-clause-left
returns-clause-left g c =
    let text = text_of_reply (reply_in c.args.spelling (reply_seen c.args.reply.now)) in
    let p = subst (λ (w : List ℕ). Sends (g.K.Sink.written c.args.out.now) w (g.K.Sink.written c.send_reply.new.out) c.send_reply.new.waiting text) c.new-waiting.ensures c.in_ok-send_reply.ensures.ok in
    on_err_weaker c.flush.result (λ q. sends_part _ _ c.send_reply.new.waiting text p _ q) c.flush.ensures.left
