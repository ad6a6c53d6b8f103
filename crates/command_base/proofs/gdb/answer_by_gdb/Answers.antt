use Rattle.std.proofs.Common.{◌≡◌, ℕ, List, Some, sym, ap, subst}
use Rattle.std.specs.Prelude.{OnOk, OnErr}
use Rattle.index_model.specs.GdbIndexRead.{gdb_index_hits}
use Rattle.name_quotes.specs.Quotes.{spelled}
use Rattle.index_model.specs.Seen.{query_seen}
use Rattle.query_text.specs.Questions.{question_seen}
use Rattle.outside.specs.Written.{Appends, AppendsPrefix}
use Rattle.index_model.specs.LookTexts.{text_of_elements}
use Rattle.command_base.specs.GdbLooks.{gdb_text, gdb_text_in}
use Rattle.command_base.specs.GdbLooks.{SaysLook}
use Rattle.command_base.specs.Replies.{Wrote}
use Rattle.command_base.specs.declared.status.Status.{Status}
use Rattle.command_base.proofs.ReplyLaws.{sent_answer}
use Rattle.command_base.proofs.gdb.answer_by_gdb.Goals as goal

pub returns-in-Name-clause-wrote : goal.returns-in-Name-clause-wrote
returns-in-Name-clause-wrote g c =
    let old = g.K.Sink.written c.args.out.now in
    let new = g.K.Sink.written c.write_elements.new.out in
    let name = c.in-Name.name.now in
    let spelling = c.args.question.now.spelling in
    let q = question_seen c.args.question.now in
    let text = text_of_elements (spelled spelling name) (gdb_index_hits c.args.index.now name) in
    let says : gdb_text c.args.index.now q ≡ Some text = ap (λ x. gdb_text_in spelling c.args.index.now (query_seen x)) c.in-Name.is in
    let ok = subst (λ (es : List ℕ). OnOk c.write_elements.result (Appends old new (text_of_elements (spelled spelling name) es))) c.find.ensures c.write_elements.ensures.ok in
    let left = subst (λ (es : List ℕ). OnErr c.write_elements.result (AppendsPrefix old new (text_of_elements (spelled spelling name) es))) c.find.ensures c.write_elements.ensures.left in
    subst (λ (s : Status). Wrote (SaysLook c.args.index.now q) s old new) (sym c.ended.ensures) (sent_answer (SaysLook c.args.index.now q) old new text c.write_elements.result says ok left)
