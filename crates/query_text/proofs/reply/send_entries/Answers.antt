use Rattle.std.proofs.Common.{ℕ, List, ◌++◌, subst}
use Rattle.std.proofs.lemmas.Result.{on_ok_weaker, on_err_weaker}
use Rattle.outside.specs.Written.{AppendsPrefix}
use Rattle.query_text.specs.Sending.{Sends}
use Rattle.query_text.proofs.SendingLaws.{sends_none, sends_head, prefix_head}
use Rattle.query_text.proofs.TextLaws.{found_text}
use Rattle.query_text.proofs.reply.send_entries.Goals as goal

pub returns-clause-ok : goal.returns-clause-ok
returns-clause-ok g c =
    let told = g.K.Sink.written c.args.out.now in
    let es = c.args.hits.now.entries.now in
    let ks = c.args.hits.now.places.now in
    let is = found_text c.args.spelling es ks c.requires.fit in
    on_ok_weaker c.send_each.result (λ q. subst (λ (l : List ℕ). Sends (g.K.Sink.written c.args.out.now) c.args.waiting.now (g.K.Sink.written c.send_each.new.out) c.send_each.new.waiting l) is (sends_head _ _ _ c.args.waiting.now c.args.waiting.now c.push_count.new.waiting _ _ (sends_none told c.args.waiting.now) c.push_count.ensures _ q)) c.send_each.ensures.ok

pub returns-clause-left : goal.returns-clause-left
returns-clause-left g c =
    let told = g.K.Sink.written c.args.out.now in
    let es = c.args.hits.now.entries.now in
    let ks = c.args.hits.now.places.now in
    let is = found_text c.args.spelling es ks c.requires.fit in
    on_err_weaker c.send_each.result (λ q. subst (λ (l : List ℕ). AppendsPrefix (g.K.Sink.written c.args.out.now) (g.K.Sink.written c.send_each.new.out) (c.args.waiting.now ++ l)) is (prefix_head _ _ _ c.args.waiting.now c.args.waiting.now c.push_count.new.waiting _ _ (sends_none told c.args.waiting.now) c.push_count.ensures q)) c.send_each.ensures.left
