use Rattle.std.proofs.Common.{ℕ, List, ◌++◌, subst}
use Rattle.std.proofs.lemmas.Result.{on_ok_weaker, on_err_weaker}
use Rattle.debugnames_read.specs.Entries.{hit_seen}
use Rattle.outside.specs.Written.{AppendsPrefix}
use Rattle.index_model.specs.LookTexts.{text_of_hit}
use Rattle.query_text.specs.LookHeads.{hit_head}
use Rattle.name_quotes.specs.Quotes.{spelled}
use Rattle.query_text.specs.Sending.{Sends}
use Rattle.query_text.proofs.HitLaws.{hit_text}
use Rattle.query_text.proofs.SendingLaws.{on_err, prefix_of_front, sends_head, prefix_head}
use Rattle.query_text.proofs.names.send_hit.Goals as goal

pub returns-in_err-make_room-clause-left : goal.returns-in_err-make_room-clause-left
returns-in_err-make_room-clause-left g c =
    on_err c.from_residual.result (prefix_of_front _ _ c.args.waiting.now (text_of_hit (spelled c.args.spelling c.args.name.now) (hit_seen c.args.hit)) c.in_err-make_room.ensures.left)

pub returns-clause-ok : goal.returns-clause-ok
returns-clause-ok g c =
    let e = hit_seen c.args.hit in
    let is = hit_text (spelled c.args.spelling c.args.name.now) e in
    on_ok_weaker c.send_name.result (λ q. subst (λ (l : List ℕ). Sends (g.K.Sink.written c.args.out.now) c.args.waiting.now (g.K.Sink.written c.send_name.new.out) c.send_name.new.waiting l) is (sends_head _ _ _ c.args.waiting.now c.make_room.new.waiting c.push_hit.new.waiting (hit_head e) _ c.in_ok-make_room.ensures.ok c.push_hit.ensures _ q)) c.send_name.ensures.ok

pub returns-clause-left : goal.returns-clause-left
returns-clause-left g c =
    let e = hit_seen c.args.hit in
    let is = hit_text (spelled c.args.spelling c.args.name.now) e in
    on_err_weaker c.send_name.result (λ q. subst (λ (l : List ℕ). AppendsPrefix (g.K.Sink.written c.args.out.now) (g.K.Sink.written c.send_name.new.out) (c.args.waiting.now ++ l)) is (prefix_head _ _ _ c.args.waiting.now c.make_room.new.waiting c.push_hit.new.waiting (hit_head e) _ c.in_ok-make_room.ensures.ok c.push_hit.ensures q)) c.send_name.ensures.left
