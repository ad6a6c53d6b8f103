-- Marks of entries, and of those behind them.
use Rattle.std.proofs.Common.{◌≡◌, ℕ, ◌+◌, List, [], ◌∷◌, ◌++◌, length, get_or, map, refl, sym, ap, ◌∙◌, inl, inr, arith, length-append}
use Rattle.std.proofs.lemmas.Bool.{cases_lt}
use Rattle.std.proofs.lemmas.List.{get_or_append_left, get_or-append-add, get_or_push, get_or-map, map-append, length-map}
use Rattle.std.proofs.lemmas.List.Elements.{All-append, All-weaker}
use Rattle.index_model.specs.declared.entry.Entry.{Entry}
use Rattle.query_engine.specs.declared.marks.NumberedPlace.{NumberedPlace}
use Rattle.query_engine.specs.declared.marks.Labelled.{Labelled}
use Rattle.query_engine.specs.Labels.{labels_from}
use Rattle.query_engine.specs.Marked.{AreLabelled, AreJoined}
use Rattle.query_engine.specs.Marks.{text_with, pair_marked, AreMarksOf, AreNumbered, IsNumberOf, Numbers, ranked}
use Rattle.query_engine.specs.Pairs.{Pair}
use Rattle.query_engine.specs.Seen.{labels_seen}
use Rattle.query_engine.proofs.CountingLaws.{no_mark}
use Rattle.query_engine.proofs.MarkLaws.{Within, grows, by_number, same_pairs, within_numbers}
use Rattle.query_engine.proofs.LabelLaws.{label_list, labels_append}

-- ---- texts with numbers

pub none_numbered : (old : List (List ℕ)) → AreNumbered old [] old []
none_numbered old = record {
  size = refl;
  longer = omega arith;
  few = omega arith;
  kept = λ n lt. refl;
  each = λ k lt. absurd (omega arith);
  used = λ n from lt. absurd (omega arith);
}

pub numbered_more : (old ts cur next : List (List ℕ)) (ns : List ℕ) (t : List ℕ) (n : ℕ) → AreNumbered old ts cur ns → Numbers cur next t n → AreNumbered old (ts ++ t ∷ []) next (ns ++ n ∷ [])
numbered_more old ts cur next ns t n h numbers =
    let g = grows cur next t n numbers in
    let more : length (ts ++ t ∷ []) ≡ length ts + 1 = length-append ts (t ∷ []) in
    record {
      size = omega (arith, h.size, more, length-append ns (n ∷ []));
      longer = omega (arith, h.longer, g.longer);
      few = omega (arith, h.few, g.few, more);
      kept = λ k lt. g.kept k (omega (arith, h.longer)) ∙ h.kept k lt;
      each = λ k lt. elim (cases_lt k (length ts)) [
        | inl low ↦
            let own = h.each k low in
            let right : IsNumberOf next (text_with ts k) (get_or ns k 0) = record { within = omega (arith, own.within, g.longer); same = g.kept (get_or ns k 0) own.within ∙ own.same } in
            rw (get_or_append_left ts (t ∷ []) [] k low, get_or_append_left ns (n ∷ []) 0 k (omega (arith, h.size))) right
        | inr high ↦ rw (get_or_push ts t [] k (omega (arith, more)), get_or_push ns n 0 k (omega (arith, h.size, more))) g.own
      ];
      used = λ m from lt. elim (g.new m lt) [
        | inl low ↦ let u = h.used m from low in (u.0, omega (arith, u.1, more), get_or_append_left ns (n ∷ []) 0 u.0 (omega (arith, u.1, h.size)) ∙ u.2)
        | inr here ↦ (length ts, omega (arith, more), get_or_push ns n 0 (length ts) h.size ∙ sym here)
      ];
    }

-- ---- marks behind marks

module _ (ps qs : List Pair) (ts us vs : List (List ℕ)) (ms ns : List NumberedPlace) (ks : List ℕ) (h : AreMarksOf ps ts ms) (g : AreMarksOf qs us ns) (numbered : AreNumbered ts us vs ks) where
  abbrev both : List NumberedPlace
  both = ms ++ map (ranked ks) ns

  size : length both ≡ length ms + length ns
  size = omega (arith, length-append ms (map (ranked ks) ns), length-map ns (ranked ks))

  say : map (pair_marked vs) both ≡ ps ++ qs
  say =
      let old : map (pair_marked vs) ms ≡ ps = same_pairs ts vs numbered.kept ms h.within ∙ h.pairs in
      let new : map (pair_marked vs) (map (ranked ks) ns) ≡ qs = by_number us vs ks numbered.each ns g.within ∙ g.pairs in
      map-append (pair_marked vs) ms (map (ranked ks) ns) ∙ (λ i. old i ++ new i)

  pub joined : AreMarksOf (ps ++ qs) vs both
  joined = record {
    pairs = say;
    within = All-append (Within vs) ms (map (ranked ks) ns) (All-weaker (Within ts) (Within vs) (λ x lt. omega (arith, numbered.longer)) ms h.within) (within_numbers us vs ks numbered.each ns g.within);
    used = λ n lt. elim (cases_lt n (length ts)) [
      | inl low ↦ let u = h.used n low in (u.0, omega (arith, u.1, size), ap (λ (x : NumberedPlace). x.number) (get_or_append_left ms (map (ranked ks) ns) no_mark u.0 u.1) ∙ u.2)
      | inr high ↦
          let k = numbered.used n high lt in
          let u = g.used k.0 k.1 in
          let at : get_or both (length ms + u.0) no_mark ≡ ranked ks (get_or ns u.0 no_mark) = get_or-append-add ms (map (ranked ks) ns) u.0 no_mark ∙ get_or-map (ranked ks) ns u.0 no_mark no_mark u.1 in
          (length ms + u.0, omega (arith, u.1, size), ap (λ (x : NumberedPlace). x.number) at ∙ ap (λ (w : ℕ). get_or ks w 0) u.2 ∙ k.2)
    ];
  }

pub joined_labels : (first : ℕ) (es fs : List Entry) (m n o : Labelled) → AreLabelled first es m → AreLabelled (first + length es) fs n → AreJoined m n o → AreLabelled first (es ++ fs) o
joined_labels first es fs m n o h g j =
    record {
      few = omega (arith, j.labels.few, h.few, g.few, length-append es fs, length-map m.labels.list.items label_list, length-map n.labels.list.items label_list, length-map o.labels.list.items label_list);
      say = rw (labels_append first es fs, j.marks) (joined (labels_from first es) (labels_from (first + length es) fs) (labels_seen m.labels.list.items) (labels_seen n.labels.list.items) (labels_seen o.labels.list.items) m.marks.items n.marks.items j.numbers h.say g.say j.labels);
    }
