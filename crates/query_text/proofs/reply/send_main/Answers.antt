use Rattle.std.proofs.Common.{ℕ, List, ◌++◌, subst}
use Rattle.std.proofs.lemmas.Result.{on_ok_weaker, on_err_weaker}
use Rattle.outside.specs.Written.{AppendsPrefix}
use Rattle.index_model.specs.Seen.{main_seen}
use Rattle.query_text.specs.Spelled.{main_in}
use Rattle.query_text.specs.Sending.{Sends}
use Rattle.query_text.proofs.SendingLaws.{sends_none, sends_head, prefix_head}
use Rattle.query_text.proofs.TextLaws.{main_text}
use Rattle.query_text.proofs.reply.send_main.Goals as goal

pub returns-clause-ok : goal.returns-clause-ok
returns-clause-ok g c =
    let told = g.K.Sink.written c.args.out.now in
    on_ok_weaker c.send_name.result (λ q. subst (λ (l : List ℕ). Sends (g.K.Sink.written c.args.out.now) c.args.waiting.now (g.K.Sink.written c.send_name.new.out) c.send_name.new.waiting l) (main_text (main_in c.args.spelling (main_seen c.args.main.now))) (sends_head _ _ _ c.args.waiting.now c.args.waiting.now c.push_main.new.waiting _ _ (sends_none told c.args.waiting.now) c.push_main.ensures _ q)) c.send_name.ensures.ok

pub returns-clause-left : goal.returns-clause-left
returns-clause-left g c =
    let told = g.K.Sink.written c.args.out.now in
    on_err_weaker c.send_name.result (λ q. subst (λ (l : List ℕ). AppendsPrefix (g.K.Sink.written c.args.out.now) (g.K.Sink.written c.send_name.new.out) (c.args.waiting.now ++ l)) (main_text (main_in c.args.spelling (main_seen c.args.main.now))) (prefix_head _ _ _ c.args.waiting.now c.args.waiting.now c.push_main.new.waiting _ _ (sends_none told c.args.waiting.now) c.push_main.ensures q)) c.send_name.ensures.left
