-- The texts of labels one way, and the marks by them.
use Rattle.std.proofs.Common.{◌≡◌, ℕ, ◌+◌, ◌<◌, Bool, true, false, List, [], ◌∷◌, ◌++◌, length, get_or, take, drop, map, Option, Some, None, refl, sym, ap, subst, ◌∙◌, inl, inr, arith, length-append, ⊎_elim}
use Rattle.std.specs.Prelude.{All, Contains, filter, filter_map}
use Rattle.std.specs.List.{enumerate_from}
use Rattle.std.proofs.lemmas.Bool.{cases_lt}
use Rattle.std.proofs.lemmas.List.{append-nil, get_or_append_left, get_or_default, get_or_push, get_or-map, length-map, take_more}
use Rattle.std.proofs.lemmas.List.Elements.{All-nil, All-cons, All-head, All-tail, All-map, Contains-get_or, filter_map-append}
use Rattle.common_laws.proofs.Members.{contains_here, contains_later, contains_cases}
use Rattle.index_model.specs.declared.entry.Entry.{Entry}
use Rattle.query_engine.specs.declared.label.Label.{Label}
use Rattle.query_engine.specs.declared.marks.NumberedPlace.{NumberedPlace}
use Rattle.query_engine.specs.declared.marks.Labelled.{Labelled}
use Rattle.query_engine.specs.declared.way.Way.{Way}
use Rattle.query_engine.specs.Asked.{counts_by, text_by, is_counted, text_of}
use Rattle.query_engine.specs.Labels.{IsWholeLabel}
use Rattle.query_engine.specs.Marked.{AreLabelled, AreTextsOf, IsNumbered, renumbered}
use Rattle.query_engine.specs.Marks.{text_with, pair_marked, AreMarksOf}
use Rattle.query_engine.specs.Pairs.{Pair, pairs_in}
use Rattle.query_engine.specs.Seen.{labels_seen}
use Rattle.query_engine.specs.Simple.{IsWhole}
use Rattle.query_engine.proofs.CountingLaws.{no_mark}
use Rattle.query_engine.proofs.LabelLaws.{Placed, placed, label_list, IsLabelOf, label_is}
use Rattle.query_engine.proofs.MarkLaws.{Within}
use Rattle.query_engine.proofs.PlacedEntries.{second_all}

abbrev no_label : Label
no_label = record { name = record { ref_ptr = (0, 0); now = [] }; tail = 0; linkage = false; fits = omega arith }

-- ---- one label more

pub no_texts : (way : Way) → AreTextsOf way [] [] []
no_texts way = record {
  size = refl;
  few = omega arith;
  each = λ k d lt. absurd (omega arith);
  used = λ n lt. absurd (omega arith);
}

numbered_still : (way : Way) (texts : List (List ℕ)) (t : List ℕ) (l : Label) (o : Option ℕ) → IsNumbered way texts l o → IsNumbered way (texts ++ t ∷ []) l o
numbered_still way texts t l (Some n) h = (h.0, record { within = omega (arith, h.1.within, length-append texts (t ∷ [])); same = get_or_append_left texts (t ∷ []) [] n h.1.within ∙ h.1.same })
numbered_still way texts t l None h = h

module _ (way : Way) (ls : List Label) (l : Label) (texts : List (List ℕ)) (numbers : List (Option ℕ)) (h : AreTextsOf way ls texts numbers) where
  abbrev t : List ℕ
  t = text_by way l.linkage l.tail l.name.now

  more : (xs : List Label) → length (xs ++ l ∷ []) ≡ length xs + 1
  more xs = length-append xs (l ∷ [])

  pub text_more : counts_by way l.linkage ≡ true → AreTextsOf way (ls ++ l ∷ []) (texts ++ t ∷ []) (numbers ++ Some (length texts) ∷ [])
  text_more counted = record {
    size = omega (arith, h.size, more ls, length-append numbers (Some (length texts) ∷ []));
    few = omega (arith, h.few, more ls, length-append texts (t ∷ []));
    each = λ k d lt. elim (cases_lt k (length ls)) [
      | inl low ↦ rw (get_or_append_left ls (l ∷ []) d k low, get_or_append_left numbers (Some (length texts) ∷ []) None k (omega (arith, h.size))) (numbered_still way texts t (get_or ls k d) (get_or numbers k None) (h.each k d low))
      | inr high ↦ rw (get_or_push ls l d k (omega (arith, more ls)), get_or_push numbers (Some (length texts)) None k (omega (arith, h.size, more ls)))
          (counted, record { within = omega (arith, length-append texts (t ∷ [])); same = get_or_push texts t [] (length texts) refl })
    ];
    used = λ n lt. elim (cases_lt n (length texts)) [
      | inl low ↦ let u = h.used n low in (u.0, omega (arith, u.1, more ls), get_or_append_left numbers (Some (length texts) ∷ []) None u.0 (omega (arith, u.1, h.size)) ∙ u.2)
      | inr high ↦
          let here : length texts ≡ n = omega (arith, length-append texts (t ∷ [])) in
          (length ls, omega (arith, more ls), get_or_push numbers (Some (length texts)) None (length ls) h.size ∙ ap (λ (k : ℕ). Some k) here)
    ];
  }

  pub none_more : counts_by way l.linkage ≡ false → AreTextsOf way (ls ++ l ∷ []) texts (numbers ++ None ∷ [])
  none_more other = record {
    size = omega (arith, h.size, more ls, length-append numbers (None ∷ []));
    few = omega (arith, h.few, more ls);
    each = λ k d lt. elim (cases_lt k (length ls)) [
      | inl low ↦ rw (get_or_append_left ls (l ∷ []) d k low, get_or_append_left numbers (None ∷ []) None k (omega (arith, h.size))) (h.each k d low)
      | inr high ↦ rw (get_or_push ls l d k (omega (arith, more ls)), get_or_push numbers None None k (omega (arith, h.size, more ls))) other
    ];
    used = λ n lt. let u = h.used n lt in (u.0, omega (arith, u.1, more ls), get_or_append_left numbers (None ∷ []) None u.0 (omega (arith, u.1, h.size)) ∙ u.2);
  }

-- ---- what is kept of a list

pub kept_one : {X Y : Type 0} (f : X → Option Y) (xs : List X) (i : ℕ) (d : X) (y : Y) → i < length xs → f (get_or xs i d) ≡ Some y → filter_map f (take (i + 1) xs) ≡ filter_map f (take i xs) ++ y ∷ []
kept_one f xs i d y lt is = ap (filter_map f) (take_more xs i d lt) ∙ filter_map-append f (take i xs) (get_or xs i d ∷ []) ∙ rw is refl

pub kept_none : {X Y : Type 0} (f : X → Option Y) (xs : List X) (i : ℕ) (d : X) → i < length xs → f (get_or xs i d) ≡ None → filter_map f (take (i + 1) xs) ≡ filter_map f (take i xs)
kept_none f xs i d lt is = ap (filter_map f) (take_more xs i d lt) ∙ filter_map-append f (take i xs) (get_or xs i d ∷ []) ∙ rw is (append-nil (filter_map f (take i xs)))

has_kept : {X Y : Type 0} (f : X → Option Y) (xs : List X) (x : X) (y : Y) → Contains xs x → f x ≡ Some y → Contains (filter_map f xs) y
has_kept f [] x y c is = absurd (omega (arith, c.1))
has_kept {X = X} {Y = Y} f (z ∷ xs) x y c is = ⊎_elim
    (λ (same : z ≡ x). let here : f z ≡ Some y = ap f same ∙ is in rw here (contains_here y (filter_map f xs)))
    (λ (later : Contains xs x). by (f z) refl (has_kept f xs x y later is))
    (contains_cases z xs x c)
  where
    by : (o : Option Y) → f z ≡ o → Contains (filter_map f xs) y → Contains (filter_map f (z ∷ xs)) y
    by (Some v) e rest = rw e (contains_later v (filter_map f xs) y rest)
    by None e rest = rw e rest

-- ---- marks of labels

-- the first and the rest of lists that are the same
first_same : (d : Pair) (p q : Pair) (ps qs : List Pair) → p ∷ ps ≡ q ∷ qs → p ≡ q
first_same d p q ps qs same = ap (λ (w : List Pair). get_or w 0 d) same

rest_same : (p q : Pair) (ps qs : List Pair) → p ∷ ps ≡ q ∷ qs → ps ≡ qs
rest_same p q ps qs same = ap (λ (w : List Pair). drop 1 w) same

own_label : (ls : List Label) (m : NumberedPlace) (x : Placed) → m.number < length ls → pair_marked (labels_seen ls) m ≡ placed x → IsLabelOf (get_or ls m.number no_label) x.1
own_label ls m x lt same = label_is (get_or ls m.number no_label) x.1 (sym (get_or-map label_list ls m.number no_label [] lt) ∙ ap (λ (p : Pair). p.1) same)

abbrev Known : List Label → NumberedPlace → Type 0
Known ls m = m.number < length ls

module _ (way : Way) (ls : List Label) (texts : List (List ℕ)) (numbers : List (Option ℕ)) (h : AreTextsOf way ls texts numbers) where
  abbrev pair : Placed → Pair
  pair e = (e.0, text_of way e.1)

  abbrev counted : Placed → Bool
  counted e = is_counted way e.1

  abbrev kept : List NumberedPlace → List NumberedPlace
  kept ms = filter_map (renumbered numbers) ms

  pairs_kept : (ms : List NumberedPlace) (xs : List Placed) → All (Known ls) ms → map (pair_marked (labels_seen ls)) ms ≡ map placed xs → map (pair_marked texts) (kept ms) ≡ map pair (filter counted xs)
  pairs_kept [] [] all same = refl
  pairs_kept [] (x ∷ xs) all same = cc
  pairs_kept (m ∷ ms) [] all same = cc
  pairs_kept (m ∷ ms) (x ∷ xs) all same = by (get_or numbers m.number None) refl (h.each m.number no_label known)
      (pairs_kept ms xs (All-tail (Known ls) m ms all) (rest_same (pair_marked (labels_seen ls) m) (placed x) (map (pair_marked (labels_seen ls)) ms) (map placed xs) same))
    where
      known : m.number < length ls
      known = All-head (Known ls) m ms all

      head : pair_marked (labels_seen ls) m ≡ placed x
      head = first_same (0, []) (pair_marked (labels_seen ls) m) (placed x) (map (pair_marked (labels_seen ls)) ms) (map placed xs) same

      own : IsLabelOf (get_or ls m.number no_label) x.1
      own = own_label ls m x known head

      place : m.place ≡ x.0
      place = ap (λ (p : Pair). p.0) head

      by : (o : Option ℕ) → get_or numbers m.number None ≡ o → IsNumbered way texts (get_or ls m.number no_label) o → map (pair_marked texts) (kept ms) ≡ map pair (filter counted xs) → map (pair_marked texts) (kept (m ∷ ms)) ≡ map pair (filter counted (x ∷ xs))
      by (Some n) is numbered rest =
          let counts : counted x ≡ true = ap (counts_by way) (sym own.linkage) ∙ numbered.0 in
          let text : text_with texts n ≡ text_of way x.1 = numbered.1.same ∙ (λ i. text_by way (own.linkage i) (own.tail i) (own.name i)) in
          rw (is, counts) (λ i. (place i, text i) ∷ rest i)
      by None is numbered rest =
          let counts : counted x ≡ false = ap (counts_by way) (sym own.linkage) ∙ numbered in
          rw (is, counts) rest

  within_kept : (ms : List NumberedPlace) → All (Known ls) ms → All (Within texts) (kept ms)
  within_kept [] all = All-nil (Within texts)
  within_kept (m ∷ ms) all = by (get_or numbers m.number None) refl (h.each m.number no_label (All-head (Known ls) m ms all)) (within_kept ms (All-tail (Known ls) m ms all))
    where
      by : (o : Option ℕ) → get_or numbers m.number None ≡ o → IsNumbered way texts (get_or ls m.number no_label) o → All (Within texts) (kept ms) → All (Within texts) (kept (m ∷ ms))
      by (Some n) is numbered rest = rw is (All-cons (Within texts) (record { number = n; place = m.place }) (kept ms) numbered.1.within rest)
      by None is numbered rest = rw is rest

  known_all : (ms : List NumberedPlace) → All (Within (labels_seen ls)) ms → All (Known ls) ms
  known_all ms all = λ k d lt. omega (arith, all k d lt, length-map ls label_list)

  pub marks_kept : (es : List Entry) (ms : List NumberedPlace) → AreMarksOf (map placed (enumerate_from 0 es)) (labels_seen ls) ms → AreMarksOf (pairs_in way es) texts (kept ms)
  marks_kept es ms say = record {
    pairs = pairs_kept ms (enumerate_from 0 es) (known_all ms say.within) say.pairs;
    within = within_kept ms (known_all ms say.within);
    used = λ n lt.
        let label = h.used n lt in
        let u = say.used label.0 (omega (arith, label.1, length-map ls label_list)) in
        let m : NumberedPlace = get_or ms u.0 no_mark in
        let there : Contains ms m = Contains-get_or ms u.0 no_mark u.1 in
        let own : NumberedPlace = record { number = n; place = m.place } in
        let is : renumbered numbers m ≡ Some own = rw (u.2, label.2) refl in
        let kept_there = has_kept (renumbered numbers) ms m own there is in
        (kept_there.0, kept_there.1, ap (λ (x : NumberedPlace). x.number) (get_or_default (kept ms) kept_there.0 no_mark own kept_there.1 ∙ kept_there.2));
  }

-- ---- labels whose names are simple

abbrev Whole : Label → Type 0
Whole l = IsWholeLabel l.linkage l.tail l.name.now

whole_placed : (ls : List Label) → All Whole ls → (ms : List NumberedPlace) (xs : List Placed) → All (Known ls) ms → map (pair_marked (labels_seen ls)) ms ≡ map placed xs → All (λ (x : Placed). IsWhole x.1) xs
whole_placed ls whole [] [] all same = All-nil (λ (x : Placed). IsWhole x.1)
whole_placed ls whole [] (x ∷ xs) all same = absurd cc
whole_placed ls whole (m ∷ ms) [] all same = All-nil (λ (x : Placed). IsWhole x.1)
whole_placed ls whole (m ∷ ms) (x ∷ xs) all same =
    let known = All-head (Known ls) m ms all in
    let head = first_same (0, []) (pair_marked (labels_seen ls) m) (placed x) (map (pair_marked (labels_seen ls)) ms) (map placed xs) same in
    let own = own_label ls m x known head in
    let l = whole m.number no_label known in
    let first : IsWhole x.1 = record { plain = sym own.linkage ∙ l.plain; whole = sym own.tail ∙ l.whole ∙ ap length own.name } in
    All-cons (λ (y : Placed). IsWhole y.1) x xs first
    (whole_placed ls whole ms xs (All-tail (Known ls) m ms all) (rest_same (pair_marked (labels_seen ls) m) (placed x) (map (pair_marked (labels_seen ls)) ms) (map placed xs) same))

pub all_whole : (es : List Entry) (m : Labelled) → AreLabelled 0 es m → All Whole m.labels.list.items → All IsWhole es
all_whole es m h whole =
    let ls = m.labels.list.items in
    let known : All (Known ls) m.marks.items = λ k d lt. omega (arith, h.say.within k d lt, length-map ls label_list) in
    let placed_whole = whole_placed ls whole m.marks.items (enumerate_from 0 es) known h.say.pairs in
    subst (All IsWhole) (second_all 0 es) (All-map IsWhole (λ (x : Placed). x.1) (enumerate_from 0 es) placed_whole)
