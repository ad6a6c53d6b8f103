use Rattle.std.proofs.Common.{◌≡◌, sym, subst, ◌∙◌}
use Rattle.reach_model.specs.FileTexts.{text_of_files_fault}
use Rattle.command_base.specs.Replies.{Wrote}
use Rattle.command_base.specs.declared.status.Status.{Status}
use Rattle.command_base.specs.declared.status.RefusedTable.TheVariants.{Lines}
use Rattle.command_base.proofs.ReplyLaws.{sent_table}
use Rattle.files_command.specs.Listed.{SaysFault}
use Rattle.files_command.proofs.files.refuse_tables.Goals as goal

pub returns-in-Ok-clause-wrote : goal.returns-in-Ok-clause-wrote
returns-in-Ok-clause-wrote g c =
    let old = g.K.Sink.written c.args.out.now in
    let new = g.K.Sink.written c.write_all.new.out in
    let says = SaysFault c.args.fault in
    let is : c.as_bytes.result.now ≡ text_of_files_fault c.args.fault = c.as_bytes.ensures.value ∙ c.in-Ok.ensures in
    subst (λ (s : Status). Wrote says s old new) (sym c.ended.ensures) (sent_table says old new c.as_bytes.result.now Lines c.write_all.result is c.write_all.ensures.ok c.write_all.ensures.left)
