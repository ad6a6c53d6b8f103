use Rattle.std.proofs.Common.{◌≡◌, ℕ, List, [], ◌∷◌, ◌++◌, length, subst, ap, ◌∙◌}
use Rattle.std.proofs.lemmas.Iterator.Consumers.{count_from_yields_List, YieldsList-from_first}
use Rattle.std.proofs.lemmas.Result.{on_ok_weaker, on_err_weaker}
use Rattle.debugnames_read.specs.Entries.{hit_seen}
use Rattle.std.specs.Prelude.{decimal, codes}
use Rattle.index_model.specs.Texts.{line}
use Rattle.index_model.specs.NameIndexRead.{NameHit, name_index_hits}
use Rattle.outside.specs.Written.{AppendsPrefix}
use Rattle.name_quotes.specs.Quotes.{spelled}
use Rattle.query_text.specs.Sending.{Sends}
use Rattle.query_text.proofs.HitLaws.{hits_text, lines}
use Rattle.query_text.proofs.SendingLaws.{sends_none, sends_head, prefix_head}
use Rattle.query_text.proofs.names.send_hits.Goals as goal

pub returns-clause-ok : goal.returns-clause-ok
returns-clause-ok g c =
    let told = g.K.Sink.written c.args.out.now in
    let name = c.args.name.now in
    let hits = name_index_hits c.args.index.now name in
    let whole : List NameHit → List NameHit = λ left. left in
    let count : c.count.result ≡ length hits = count_from_yields_List c.find.result c.count.result c.count.ensures.ran (YieldsList-from_first hit_seen whole hits c.find.ensures) in
    let written = spelled c.args.spelling name in
    let is = ap (λ (hs : List NameHit). line (codes "found" ∷ decimal c.count.result ∷ []) ++ lines written hs) c.find-2.ensures ∙ hits_text written hits c.count.result count in
    on_ok_weaker c.send_each.result (λ q. subst (λ (l : List ℕ). Sends (g.K.Sink.written c.args.out.now) c.args.waiting.now (g.K.Sink.written c.send_each.new.out) c.send_each.new.waiting l) is (sends_head _ _ _ c.args.waiting.now c.args.waiting.now c.push_count.new.waiting _ _ (sends_none told c.args.waiting.now) c.push_count.ensures _ q)) c.send_each.ensures.ok

pub returns-clause-left : goal.returns-clause-left
returns-clause-left g c =
    let told = g.K.Sink.written c.args.out.now in
    let name = c.args.name.now in
    let hits = name_index_hits c.args.index.now name in
    let whole : List NameHit → List NameHit = λ left. left in
    let count : c.count.result ≡ length hits = count_from_yields_List c.find.result c.count.result c.count.ensures.ran (YieldsList-from_first hit_seen whole hits c.find.ensures) in
    let written = spelled c.args.spelling name in
    let is = ap (λ (hs : List NameHit). line (codes "found" ∷ decimal c.count.result ∷ []) ++ lines written hs) c.find-2.ensures ∙ hits_text written hits c.count.result count in
    on_err_weaker c.send_each.result (λ q. subst (λ (l : List ℕ). AppendsPrefix (g.K.Sink.written c.args.out.now) (g.K.Sink.written c.send_each.new.out) (c.args.waiting.now ++ l)) is (prefix_head _ _ _ c.args.waiting.now c.args.waiting.now c.push_count.new.waiting _ _ (sends_none told c.args.waiting.now) c.push_count.ensures q)) c.send_each.ensures.left
