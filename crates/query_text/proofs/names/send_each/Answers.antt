use Rattle.std.proofs.Common.{◌≡◌, ℕ, List, [], ◌∷◌, ◌++◌, Option, map, sym, ap, ◌∙◌, subst, append_assoc, arith}
use Rattle.std.proofs.lemmas.List.{map-append}
use Rattle.debugnames_read.specs.declared.entry.NameHit.{NameHit}
use Rattle.debugnames_read.specs.Entries.{hit_seen}
use Rattle.index_model.specs.NameIndexRead.{NameHit as HitOf}
use Rattle.std.specs.Iterator.{YieldsFirstBy}
use Rattle.outside.specs.Written.{AppendsPrefix}
use Rattle.index_model.specs.LookTexts.{text_of_hit}
use Rattle.name_quotes.specs.Quotes.{spelled}
use Rattle.query_text.specs.Sending.{Sends}
use Rattle.query_text.proofs.HitLaws.{lines, lines_more, lines_whole}
use Rattle.query_text.proofs.SendingLaws.{on_err, sends_more, sends_prefix, prefix_of_text}
use Rattle.query_text.proofs.names.send_each.Goals as goal

abbrev whole : List HitOf → List HitOf
whole left = left

pub loop-hit-preserved : goal.loop-hit-preserved
loop-hit-preserved g c =
    let name = spelled c.args.spelling c.args.name.now in
    let done = map hit_seen c.loop-hit.yielded in
    let h = hit_seen c.in-Some.hit in
    let turn = subst (λ (o : Option NameHit). YieldsFirstBy hit_seen whole c.loop-hit.hit-iterator o c.next.new.self) c.in-Some.is c.next.ensures.steps in
    let now = map-append hit_seen c.loop-hit.yielded (c.in-Some.hit ∷ []) in
    let more = ap (lines name) now ∙ lines_more name done h in
    record {
      sent = subst (λ (l : List ℕ). Sends (g.K.Sink.written c.args.out.now) c.args.waiting.now (g.K.Sink.written c.send_hit.new.out) c.send_hit.new.waiting l) (sym more) (sends_more _ _ _ _ _ _ (lines name done) (text_of_hit name h) c.loop-hit.invariant.sent c.in_ok-send_hit.ensures.ok);
      left = ap (λ (hs : List HitOf). hs ++ c.next.new.self) now ∙ append_assoc done (h ∷ []) c.next.new.self ∙ ap (λ (hs : List HitOf). done ++ hs) (sym turn) ∙ c.loop-hit.invariant.left;
      counts = omega (arith, c.loop-hit.invariant.counts, c.in_ok-send_hit.ensures.counts);
    }

pub returns-in_err-send_hit-clause-left : goal.returns-in_err-send_hit-clause-left
returns-in_err-send_hit-clause-left g c =
    let name = spelled c.args.spelling c.args.name.now in
    let done = map hit_seen c.loop-hit.yielded in
    let h = hit_seen c.in-Some.hit in
    let turn = subst (λ (o : Option NameHit). YieldsFirstBy hit_seen whole c.loop-hit.hit-iterator o c.next.new.self) c.in-Some.is c.next.ensures.steps in
    let same : c.args.hits ≡ c.into_iter-hit-iterator.result = cc in
    let all = same ∙ sym c.loop-hit.invariant.left ∙ ap (λ (hs : List HitOf). done ++ hs) turn in
    let texts = ap (lines name) all ∙ lines_whole name done h c.next.new.self in
    let sent = sends_prefix _ _ _ _ _ (lines name done) (text_of_hit name h) c.loop-hit.invariant.sent c.in_err-send_hit.ensures.left in
    on_err c.from_residual.result (subst (λ (l : List ℕ). AppendsPrefix (g.K.Sink.written c.args.out.now) (g.K.Sink.written c.send_hit.new.out) (c.args.waiting.now ++ l)) (sym texts) (prefix_of_text _ _ c.args.waiting.now (lines name done ++ text_of_hit name h) (lines name c.next.new.self) sent))
