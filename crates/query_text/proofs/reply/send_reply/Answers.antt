use Rattle.std.proofs.Common.{ℕ, List, ◌++◌, subst, sym, ap, ◌∙◌}
use Rattle.std.proofs.lemmas.Result.{on_ok_weaker, on_err_weaker}
use Rattle.outside.specs.Written.{AppendsPrefix}
use Rattle.index_model.specs.Seen.{answer_seen, reply_seen}
use Rattle.index_model.specs.Texts.{text_of_reply}
use Rattle.query_text.specs.Sending.{Sends}
use Rattle.query_text.specs.Spelled.{reply_in}
use Rattle.query_text.proofs.SendingLaws.{sends_waiting}
use Rattle.query_text.proofs.TextLaws.{answered_text, pending_text, refused_text, stopped_text}
use Rattle.query_text.proofs.reply.send_reply.Goals as goal

pub returns-in-Answer-clause-ok : goal.returns-in-Answer-clause-ok
returns-in-Answer-clause-ok g c =
    let s = c.args.spelling in
    let is = answered_text s (answer_seen c.in-Answer.answer) ∙ sym (ap (λ r. text_of_reply (reply_in s (reply_seen r))) c.in-Answer.is) in
    on_ok_weaker c.send_answer.result (λ q. subst (λ (l : List ℕ). Sends (g.K.Sink.written c.args.out.now) c.args.waiting.now (g.K.Sink.written c.send_answer.new.out) c.send_answer.new.waiting l) is q) c.send_answer.ensures.ok

pub returns-in-Answer-clause-left : goal.returns-in-Answer-clause-left
returns-in-Answer-clause-left g c =
    let s = c.args.spelling in
    let is = answered_text s (answer_seen c.in-Answer.answer) ∙ sym (ap (λ r. text_of_reply (reply_in s (reply_seen r))) c.in-Answer.is) in
    on_err_weaker c.send_answer.result (λ q. subst (λ (l : List ℕ). AppendsPrefix (g.K.Sink.written c.args.out.now) (g.K.Sink.written c.send_answer.new.out) (c.args.waiting.now ++ l)) is q) c.send_answer.ensures.left

pub returns-in-Pending-clause-ok : goal.returns-in-Pending-clause-ok
returns-in-Pending-clause-ok g c =
    let is = pending_text c.args.spelling ∙ sym (ap (λ r. text_of_reply (reply_in c.args.spelling (reply_seen r))) c.in-Pending.is) in
    sends_waiting (g.K.Sink.written c.args.out.now) c.args.waiting.now c.push.new.self _ (c.push.ensures.text ∙ ap (λ (l : List ℕ). c.args.waiting.now ++ l) is)

pub returns-in-Refused-clause-ok : goal.returns-in-Refused-clause-ok
returns-in-Refused-clause-ok g c =
    let is = refused_text c.args.spelling c.in-Refused.fault ∙ sym (ap (λ r. text_of_reply (reply_in c.args.spelling (reply_seen r))) c.in-Refused.is) in
    sends_waiting (g.K.Sink.written c.args.out.now) c.args.waiting.now c.push_fault.new.waiting _ (c.push_fault.ensures ∙ ap (λ (l : List ℕ). c.args.waiting.now ++ l) is)

pub returns-in-Stopped-clause-ok : goal.returns-in-Stopped-clause-ok
returns-in-Stopped-clause-ok g c =
    let is = stopped_text c.args.spelling ∙ sym (ap (λ r. text_of_reply (reply_in c.args.spelling (reply_seen r))) c.in-Stopped.is) in
    sends_waiting (g.K.Sink.written c.args.out.now) c.args.waiting.now c.push-in-Stopped.new.self _ (c.push-in-Stopped.ensures.text ∙ ap (λ (l : List ℕ). c.args.waiting.now ++ l) is)
