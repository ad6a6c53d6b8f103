use Rattle.std.proofs.Common.{◌≡◌, ℕ, ◌+◌, List, [], ◌∷◌, ◌++◌, length, take, sym, ap, ◌∙◌, rules}
use Rattle.std.proofs.lemmas.List.{length-map, map_push, take_more}
use Rattle.query_engine.specs.declared.label.Label.{Label}
use Rattle.query_engine.specs.declared.spelling.FrontedText.{FrontedText}
use Rattle.query_engine.specs.Asked.{text_by}
use Rattle.query_engine.specs.Seen.{texts_seen}
use Rattle.query_engine.proofs.SpelledLaws.{text_more, none_more}
use Rattle.query_engine.proofs.spelled.texts_of.Goals as goal
use Rattle.query_engine.proofs.spelled.texts_of.Goals.{then-counts+in_ok-push+in_ok-push-2, else-counts+in_ok-push-3}

pub loop-label-preserved : goal.loop-label-preserved
loop-label-preserved c =
    let way = c.args.way in
    let ls = c.args.labels.now in
    let i = c.loop-label.label-index in
    let l = c.label-item.result in
    let texts : List (List ℕ) = texts_seen c.loop-label.texts.items in
    let numbers = c.loop-label.numbers.items in
    let more : take (i + 1) ls ≡ take i ls ++ l ∷ [] = take_more ls i l c.loop-label-test.true ∙ ap (λ (x : Label). take i ls ++ x ∷ []) (sym c.label-item.is) in
    elim c.if-counts.branch [
      | then-counts+in_ok-push+in_ok-push-2 w ↦
          let counted = sym c.counts.ensures ∙ w.if-counts.true in
          let count : w.len.result ≡ length c.loop-label.texts.items = search rules in
          let size : w.len.result ≡ length texts = count ∙ sym (length-map c.loop-label.texts.items (λ (s : FrontedText). s.bytes.now)) in
          let own : w.new.result.bytes.now ≡ text_by way l.linkage l.tail l.name.now = w.new.ensures ∙ w.text.ensures in
          let text : texts_seen (c.loop-label.texts.items ++ w.new.result ∷ []) ≡ texts ++ text_by way l.linkage l.tail l.name.now ∷ [] = map_push (λ (s : FrontedText). s.bytes.now) c.loop-label.texts.items w.new.result ∙ ap (λ (t : List ℕ). texts ++ t ∷ []) own in
          rw (w.texts-is, w.numbers-is, w.in_ok-push.ensures.items, w.in_ok-push-2.ensures.items, more, text, size) (text_more way (take i ls) l texts numbers c.loop-label.invariant counted)
      | else-counts+in_ok-push-3 w ↦
          let other = sym c.counts.ensures ∙ w.if-counts.false in
          rw (w.texts-is, w.numbers-is, w.in_ok-push-3.ensures.items, more) (none_more way (take i ls) l texts numbers c.loop-label.invariant other)
    ]
