use Rattle.std.proofs.Common.{inl, inr, refl, sym, ap, ◌∙◌, subst}
use Rattle.index_model.specs.Seen.{answer_seen, reply_seen}
use Rattle.index_model.specs.Texts.{text_of_reply}
use Rattle.query_text.specs.Spelled.{answer_in, reply_in}
use Rattle.command_base.specs.Replies.{SaysReply, Wrote, status_of_reply}
use Rattle.command_base.specs.declared.status.Status.{Status}
use Rattle.command_base.specs.declared.status.Status.TheVariants.{Answered, Refused}
use Rattle.command_base.proofs.ReplyLaws.{after_reply, answered_in, refused_in, sent, says_answer, says_fault}
use Rattle.command_base.proofs.reply.write.Goals as goal

pub returns-in-Answer-clause-wrote : goal.returns-in-Answer-clause-wrote
returns-in-Answer-clause-wrote g c =
    let spelling = c.args.spelling in
    let r = reply_in spelling (reply_seen c.args.reply.now) in
    let old = g.K.Sink.written c.args.out.now in
    let new = g.K.Sink.written c.write_reply.new.out in
    subst (λ (s : Status). Wrote (SaysReply r) s old new) (sym c.ended.ensures)
    (sent r old new c.write_reply.result Answered (text_of_reply r) (says_answer r (answer_in spelling (answer_seen c.in-Answer.field-0)) (ap (λ x. reply_in spelling (reply_seen x)) c.in-Answer.is ∙ answered_in spelling (answer_seen c.in-Answer.field-0))) (inl refl) c.write_reply.ensures.ok c.write_reply.ensures.left)

pub returns-in-Refused-clause-wrote : goal.returns-in-Refused-clause-wrote
returns-in-Refused-clause-wrote g c =
    let spelling = c.args.spelling in
    let r = reply_in spelling (reply_seen c.args.reply.now) in
    let old = g.K.Sink.written c.args.out.now in
    let new = g.K.Sink.written c.write_reply-in-Refused.new.out in
    subst (λ (s : Status). Wrote (SaysReply r) s old new) (sym c.ended-in-Refused.ensures)
    (sent r old new c.write_reply-in-Refused.result Refused (text_of_reply r) (says_fault r c.in-Refused.field-0 (ap (λ x. reply_in spelling (reply_seen x)) c.in-Refused.is ∙ refused_in spelling c.in-Refused.field-0)) (inr refl) c.write_reply-in-Refused.ensures.ok c.write_reply-in-Refused.ensures.left)

pub returns-in-Answer-clause-status : goal.returns-in-Answer-clause-status
returns-in-Answer-clause-status g c =
    let same = sym (ap (λ r. status_of_reply (reply_seen r)) c.in-Answer.is) in
    after_reply c.write_reply.result (reply_seen c.args.reply.now) c.ended.result Answered c.ended.ensures same

pub returns-in-Refused-clause-status : goal.returns-in-Refused-clause-status
returns-in-Refused-clause-status g c =
    let same = sym (ap (λ r. status_of_reply (reply_seen r)) c.in-Refused.is) in
    after_reply c.write_reply-in-Refused.result (reply_seen c.args.reply.now) c.ended-in-Refused.result Refused c.ended-in-Refused.ensures same
