use Rattle.std.proofs.Common.{◌≡◌, ℕ, ◌+◌, ◌++◌, List, [], ◌∷◌, subst, ap, ◌∙◌}
use Rattle.std.proofs.lemmas.Result.{on_err_weaker}
use Rattle.outside.specs.Written.{AppendsPrefix}
use Rattle.index_model.specs.Seen.{reply_seen}
use Rattle.index_model.specs.Texts.{text_of_reply}
use Rattle.query_text.specs.Spelled.{reply_in}
use Rattle.query_text.proofs.LookLaws.{sends_rest}
use Rattle.query_text.proofs.answer.write_look.Goals as goal

pub returns-clause-left : goal.returns-clause-left
returns-clause-left g c =
    let head : List ℕ = (48 + c.args.look.now.stage) ∷ 32 ∷ [] in
    let text = text_of_reply (reply_in c.args.spelling (reply_seen c.args.look.now.reply)) in
    let e : c.push.new.self ≡ head = c.push.ensures.text ∙ ap (λ (l : List ℕ). l ++ head) c.new-waiting.ensures in
    on_err_weaker c.flush.result (λ q. subst (λ (w : List ℕ). AppendsPrefix (g.K.Sink.written c.args.out.now) (g.K.Sink.written c.flush.new.out) (w ++ text)) e (sends_rest _ _ c.push.new.self c.send_reply.new.waiting text c.in_ok-send_reply.ensures.ok _ q)) c.flush.ensures.left
