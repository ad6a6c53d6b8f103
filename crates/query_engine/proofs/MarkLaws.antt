-- One mark more, and marks by other numbers.
use Rattle.std.proofs.Common.{◌≡◌, ◌⊎◌, ℕ, ◌+◌, ◌<◌, ◌≤◌, List, [], ◌∷◌, ◌++◌, length, get_or, map, refl, sym, ap, ◌∙◌, inl, inr, arith, length-append}
use Rattle.std.specs.Prelude.{All}
use Rattle.std.proofs.lemmas.Bool.{cases_lt}
use Rattle.std.proofs.lemmas.List.{get_or_append_left, get_or_push, get_or-map, map-append, length-map}
use Rattle.std.proofs.lemmas.List.Elements.{All-head, All-tail, All-map, All-weaker, All-push}
use Rattle.query_engine.specs.declared.marks.NumberedPlace.{NumberedPlace}
use Rattle.query_engine.specs.Pairs.{Pair}
use Rattle.query_engine.specs.Marks.{text_with, pair_marked, IsNumberOf, Numbers, AreMarksOf, ranked}
use Rattle.query_engine.specs.Ranks.{AreRanksOf}
use Rattle.query_engine.proofs.CountingLaws.{no_mark}

-- the number of a mark is that of a text
abbrev pub Within : List (List ℕ) → NumberedPlace → Type 0
Within ts m = m.number < length ts

-- marks with numbers of texts that stay have the same pairs
pub same_pairs : (ts us : List (List ℕ)) → ((n : ℕ) → n < length ts → text_with us n ≡ text_with ts n) → (ms : List NumberedPlace) → All (Within ts) ms → map (pair_marked us) ms ≡ map (pair_marked ts) ms
same_pairs ts us same [] all = refl
same_pairs ts us same (m ∷ ms) all =
    let first = same m.number (All-head (Within ts) m ms all) in
    let rest = same_pairs ts us same ms (All-tail (Within ts) m ms all) in
    λ i. (m.place, first i) ∷ rest i

-- a text with its number, and the texts before and after it got one
pub record Grows (ts us : List (List ℕ)) (t : List ℕ) (n : ℕ) : Type 0 where
  pub longer : length ts ≤ length us
  pub few : length us ≤ length ts + 1
  pub kept : (k : ℕ) → k < length ts → text_with us k ≡ text_with ts k
  pub own : IsNumberOf us t n
  pub new : (k : ℕ) → k < length us → (k < length ts) ⊎ (k ≡ n)

pub grows : (ts us : List (List ℕ)) (t : List ℕ) (n : ℕ) → Numbers ts us t n → Grows ts us t n
grows ts us t n (inl h) =
    let same : us ≡ ts = h.0 in
    record {
      longer = omega (arith, ap length same);
      few = omega (arith, ap length same);
      kept = λ k lt. ap (λ (w : List (List ℕ)). text_with w k) same;
      own = rw same h.1;
      new = λ k lt. inl (omega (arith, ap length same));
    }
grows ts us t n (inr h) =
    let more : us ≡ ts ++ t ∷ [] = h.0 in
    let size : length us ≡ length ts + 1 = ap length more ∙ length-append ts (t ∷ []) in
    let number : n ≡ length ts = h.1 in
    record {
      longer = omega arith;
      few = omega arith;
      kept = λ k lt. ap (λ (w : List (List ℕ)). text_with w k) more ∙ get_or_append_left ts (t ∷ []) [] k lt;
      own = record { within = omega arith; same = ap (λ (w : List (List ℕ)). text_with w n) more ∙ get_or_push ts t [] n (sym number) };
      new = λ k lt. elim (cases_lt k (length ts)) [ inl low ↦ inl low | inr high ↦ inr (omega arith) ];
    }

module _ (ps : List Pair) (ts us : List (List ℕ)) (ms : List NumberedPlace) (h : AreMarksOf ps ts ms) (p n : ℕ) (t : List ℕ) (numbers : Numbers ts us t n) where
  abbrev m : NumberedPlace
  m = record { number = n; place = p }

  abbrev with_mark : List NumberedPlace
  with_mark = ms ++ m ∷ []

  size : length with_mark ≡ length ms + 1
  size = length-append ms (m ∷ [])

  -- what holds with one mark more
  pub marks_more : AreMarksOf (ps ++ (p, t) ∷ []) us with_mark
  marks_more =
      let g = grows ts us t n numbers in
      record {
        pairs =
            let old : map (pair_marked us) ms ≡ ps = same_pairs ts us g.kept ms h.within ∙ h.pairs in
            let last = g.own.same in
            map-append (pair_marked us) ms (m ∷ []) ∙ (λ i. old i ++ (p, last i) ∷ []);
        within = All-push (Within us) ms m (All-weaker (Within ts) (Within us) (λ x lt. omega (arith, g.longer)) ms h.within) g.own.within;
        used = λ k lt. elim (g.new k lt) [
          | inl old ↦ let u = h.used k old in (u.0, omega (arith, u.1, size), ap (λ (x : NumberedPlace). x.number) (get_or_append_left ms (m ∷ []) no_mark u.0 u.1) ∙ u.2)
          | inr here ↦ (length ms, omega (arith, size), ap (λ (x : NumberedPlace). x.number) (get_or_push ms m no_mark (length ms) refl) ∙ sym here)
        ];
      }

pub no_marks : (ts : List (List ℕ)) → length ts ≡ 0 → AreMarksOf [] ts []
no_marks ts none = record { pairs = refl; within = λ k d lt. absurd (omega arith); used = λ n lt. absurd (omega arith) }

-- ---- numbers for numbers

module _ (ts us : List (List ℕ)) (ns : List ℕ) (each : (n : ℕ) → n < length ts → IsNumberOf us (text_with ts n) (get_or ns n 0)) where
  -- marks whose numbers lead to others of the same texts say the same
  pub by_number : (ms : List NumberedPlace) → All (Within ts) ms → map (pair_marked us) (map (ranked ns) ms) ≡ map (pair_marked ts) ms
  by_number [] all = refl
  by_number (x ∷ xs) all =
      let first = (each x.number (All-head (Within ts) x xs all)).same in
      let rest = by_number xs (All-tail (Within ts) x xs all) in
      λ i. (x.place, first i) ∷ rest i

  pub within_numbers : (ms : List NumberedPlace) → All (Within ts) ms → All (Within us) (map (ranked ns) ms)
  within_numbers ms all = All-map (Within us) (ranked ns) ms (All-weaker (Within ts) (λ (m : NumberedPlace). Within us (ranked ns m)) (λ m lt. (each m.number lt).within) ms all)

module _ (ps : List Pair) (ts ds : List (List ℕ)) (ms : List NumberedPlace) (rs : List ℕ) (h : AreMarksOf ps ts ms) (ranks : AreRanksOf ts ds rs) where
  -- marks with the ranks of their texts say the same
  pub marks_ranked : AreMarksOf ps ds (map (ranked rs) ms)
  marks_ranked = record {
    pairs = by_number ts ds rs ranks.each ms h.within ∙ h.pairs;
    within = within_numbers ts ds rs ranks.each ms h.within;
    used = λ k lt.
        let r = ranks.used k lt in
        let u = h.used r.0 r.1 in
        let at : get_or (map (ranked rs) ms) u.0 no_mark ≡ ranked rs (get_or ms u.0 no_mark) = get_or-map (ranked rs) ms u.0 no_mark no_mark u.1 in
        (u.0, omega (arith, u.1, length-map ms (ranked rs)), ap (λ (x : NumberedPlace). x.number) at ∙ ap (λ (n : ℕ). get_or rs n 0) u.2 ∙ r.2);
  }
