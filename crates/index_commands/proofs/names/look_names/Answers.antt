use Rattle.std.proofs.Common.{◌≡◌, ℕ, Ok, Err, refl, sym, subst}
use Rattle.index_model.specs.NameIndexRead.{name_index, name_index_hits}
use Rattle.index_model.specs.LookTexts.{text_of_hits, text_of_index_fault}
use Rattle.name_quotes.specs.Quotes.{spelled}
use Rattle.index_commands.specs.NamesLooks.{SaysNames}
use Rattle.command_base.specs.Replies.{Wrote}
use Rattle.command_base.specs.declared.status.Status.{Status}
use Rattle.command_base.proofs.ReplyLaws.{sent_answer, sent_refusal}
use Rattle.index_commands.proofs.HitCounts.{hits_fit}
use Rattle.index_commands.proofs.names.look_names.Goals as goal

pub write_hits-requires : goal.write_hits-requires
write_hits-requires g c = hits_fit c.args.bytes.now c.args.strings.now c.from.result c.in-Ok.index c.args.name.now c.in-Ok.ensures c.requires

pub returns-in-Ok-clause-wrote : goal.returns-in-Ok-clause-wrote
returns-in-Ok-clause-wrote g c =
    let old = g.K.Sink.written c.args.out.now in
    let new = g.K.Sink.written c.write_hits.new.out in
    let name = c.args.name.now in
    let says = SaysNames c.args.bytes.now c.args.strings.now c.args.look name in
    let accepted = subst (λ (base : ℕ). name_index c.args.bytes.now c.args.strings.now base ≡ Ok c.in-Ok.index) c.from.ensures c.in-Ok.ensures in
    subst (λ (s : Status). Wrote says s old new) (sym c.ended.ensures)
    (sent_answer says old new (text_of_hits (spelled c.args.look.spelling name) (name_index_hits c.in-Ok.index name)) c.write_hits.result (record { index = c.in-Ok.index; accepted = accepted; text_is = refl }) c.write_hits.ensures.ok c.write_hits.ensures.left)

pub returns-in-Err-clause-wrote : goal.returns-in-Err-clause-wrote
returns-in-Err-clause-wrote g c =
    let old = g.K.Sink.written c.args.out.now in
    let new = g.K.Sink.written c.write_index_fault.new.out in
    let says = SaysNames c.args.bytes.now c.args.strings.now c.args.look c.args.name.now in
    let first = subst (λ (base : ℕ). name_index c.args.bytes.now c.args.strings.now base ≡ Err c.in-Err.fault) c.from.ensures c.in-Err.ensures in
    subst (λ (s : Status). Wrote says s old new) (sym c.ended-in-Err.ensures)
    (sent_refusal says old new (text_of_index_fault c.in-Err.fault) c.write_index_fault.result (record { fault = c.in-Err.fault; first = first; text_is = refl }) c.write_index_fault.ensures.ok c.write_index_fault.ensures.left)
