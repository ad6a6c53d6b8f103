use Rattle.std.proofs.Common.{◌≡◌, Err, refl, sym, subst}
use Rattle.index_model.specs.Gives.{Stop}
use Rattle.index_model.specs.GdbIndexRead.{gdb_index}
use Rattle.index_model.specs.Gives.{StopsAs}
use Rattle.query_text.specs.Questions.{question_seen}
use Rattle.index_model.specs.LookTexts.{text_of_index_fault}
use Rattle.command_base.specs.GdbLooks.{SaysGdb}
use Rattle.command_base.specs.Replies.{Wrote}
use Rattle.command_base.specs.declared.status.Status.{Status}
use Rattle.command_base.proofs.ReplyLaws.{sent_refusal}
use Rattle.command_base.proofs.gdb.look_gdb.Goals as goal

pub returns-in-Err-Cause-clause-wrote : goal.returns-in-Err-Cause-clause-wrote
returns-in-Err-Cause-clause-wrote g c =
    let old = g.K.Sink.written c.args.out.now in
    let new = g.K.Sink.written c.write_index_fault.new.out in
    let first : gdb_index c.args.bytes.now ≡ Err c.in-Err-Cause.fault = subst (λ (s : Stop). StopsAs s (gdb_index c.args.bytes.now)) c.in-Err-Cause.field-0-is c.in-Err-Cause.ensures in
    let says = SaysGdb c.args.bytes.now (question_seen c.args.question.now) in
    subst (λ (s : Status). Wrote says s old new) (sym c.ended.ensures)
    (sent_refusal says old new (text_of_index_fault c.in-Err-Cause.fault) c.write_index_fault.result (record { fault = c.in-Err-Cause.fault; first = first; text_is = refl }) c.write_index_fault.ensures.ok c.write_index_fault.ensures.left)
