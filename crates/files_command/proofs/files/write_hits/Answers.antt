use Rattle.std.proofs.Common.{◌≡◌, sym, subst, ◌∙◌}
use Rattle.line_files.specs.Found.{hits_seen}
use Rattle.reach_model.specs.FileTexts.{text_of_hits}
use Rattle.command_base.specs.Replies.{Wrote}
use Rattle.command_base.specs.declared.status.Status.{Status}
use Rattle.command_base.proofs.ReplyLaws.{sent_answer}
use Rattle.files_command.specs.Listed.{SaysHits}
use Rattle.files_command.proofs.files.write_hits.Goals as goal

pub returns-in-Ok-clause-wrote : goal.returns-in-Ok-clause-wrote
returns-in-Ok-clause-wrote g c =
    let old = g.K.Sink.written c.args.out.now in
    let new = g.K.Sink.written c.write_all.new.out in
    let says = SaysHits (hits_seen c.args.hits.now) in
    let is : c.deref.result.now ≡ text_of_hits (hits_seen c.args.hits.now) = c.deref.ensures.value ∙ c.in-Ok.ensures in
    subst (λ (s : Status). Wrote says s old new) (sym c.ended.ensures) (sent_answer says old new c.deref.result.now c.write_all.result is c.write_all.ensures.ok c.write_all.ensures.left)
