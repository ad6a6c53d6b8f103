use Rattle.std.proofs.Common.{ℕ, List, ◌++◌, subst}
use Rattle.std.proofs.lemmas.Result.{on_ok_weaker, on_err_weaker}
use Rattle.index_model.specs.NameIndexRead.{name_index_hits}
use Rattle.outside.specs.Written.{AppendsPrefix}
use Rattle.index_model.specs.LookTexts.{text_of_hits}
use Rattle.name_quotes.specs.Quotes.{spelled}
use Rattle.query_text.specs.Sending.{Sends}
use Rattle.query_text.proofs.SendingLaws.{on_err, sends_all, sends_part}
use Rattle.query_text.proofs.names.write_hits.Goals as goal

pub returns-in_err-send_hits-clause-left : goal.returns-in_err-send_hits-clause-left
returns-in_err-send_hits-clause-left g c =
    on_err c.from_residual.result (subst (λ (w : List ℕ). AppendsPrefix (g.K.Sink.written c.args.out.now) (g.K.Sink.written c.send_hits.new.out) (w ++ text_of_hits (spelled c.args.spelling c.args.name.now) (name_index_hits c.args.index.now c.args.name.now))) c.new-waiting.ensures c.in_err-send_hits.ensures.left)

pub returns-clause-ok : goal.returns-clause-ok
returns-clause-ok g c =
    let text = text_of_hits (spelled c.args.spelling c.args.name.now) (name_index_hits c.args.index.now c.args.name.now) in
    let p = subst (λ (w : List ℕ). Sends (g.K.Sink.written c.args.out.now) w (g.K.Sink.written c.send_hits.new.out) c.send_hits.new.waiting text) c.new-waiting.ensures c.in_ok-send_hits.ensures.ok in
    on_ok_weaker c.flush.result (λ q. sends_all _ _ c.send_hits.new.waiting text p _ q) c.flush.ensures.ok

pub returns-clause-left : goal.returns-clause-left
returns-clause-left g c =
    let text = text_of_hits (spelled c.args.spelling c.args.name.now) (name_index_hits c.args.index.now c.args.name.now) in
    let p = subst (λ (w : List ℕ). Sends (g.K.Sink.written c.args.out.now) w (g.K.Sink.written c.send_hits.new.out) c.send_hits.new.waiting text) c.new-waiting.ensures c.in_ok-send_hits.ensures.ok in
    on_err_weaker c.flush.result (λ q. sends_part _ _ c.send_hits.new.waiting text p _ q) c.flush.ensures.left
