use Rattle.std.proofs.Common.{ℕ, List, ◌++◌, subst}
use Rattle.std.proofs.lemmas.Result.{on_ok_weaker, on_err_weaker}
use Rattle.outside.specs.Written.{AppendsPrefix}
use Rattle.index_model.specs.LookTexts.{text_of_elements}
use Rattle.name_quotes.specs.Quotes.{spelled}
use Rattle.query_text.specs.Sending.{Sends}
use Rattle.query_text.proofs.SendingLaws.{on_err, sends_all, sends_part}
use Rattle.query_text.proofs.elements.write_elements.Goals as goal

pub returns-in_err-send_elements-clause-left : goal.returns-in_err-send_elements-clause-left
returns-in_err-send_elements-clause-left g c =
    on_err c.from_residual.result (subst (λ (w : List ℕ). AppendsPrefix (g.K.Sink.written c.args.out.now) (g.K.Sink.written c.send_elements.new.out) (w ++ text_of_elements (spelled c.args.spelling c.args.name.now) c.args.elements.now)) c.new-waiting.ensures c.in_err-send_elements.ensures.left)

pub returns-clause-ok : goal.returns-clause-ok
returns-clause-ok g c =
    let text = text_of_elements (spelled c.args.spelling c.args.name.now) c.args.elements.now in
    let p = subst (λ (w : List ℕ). Sends (g.K.Sink.written c.args.out.now) w (g.K.Sink.written c.send_elements.new.out) c.send_elements.new.waiting text) c.new-waiting.ensures c.in_ok-send_elements.ensures.ok in
    on_ok_weaker c.flush.result (λ q. sends_all _ _ c.send_elements.new.waiting text p _ q) c.flush.ensures.ok

pub returns-clause-left : goal.returns-clause-left
returns-clause-left g c =
    let text = text_of_elements (spelled c.args.spelling c.args.name.now) c.args.elements.now in
    let p = subst (λ (w : List ℕ). Sends (g.K.Sink.written c.args.out.now) w (g.K.Sink.written c.send_elements.new.out) c.send_elements.new.waiting text) c.new-waiting.ensures c.in_ok-send_elements.ensures.ok in
    on_err_weaker c.flush.result (λ q. sends_part _ _ c.send_elements.new.waiting text p _ q) c.flush.ensures.left
