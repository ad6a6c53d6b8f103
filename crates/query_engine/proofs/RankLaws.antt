-- The ranks of sorted texts, one after the other.
use Rattle.std.proofs.Common.{◌≡◌, ◌≢◌, ℕ, ◌+◌, ◌-◌, ◌<◌, ◌≤◌, List, [], ◌∷◌, ◌++◌, length, get_or, set, refl, sym, ap, ◌∙◌, ◌⊎◌, inl, inr, zero-add, arith, length-append}
use Rattle.std.proofs.lemmas.Bool.{cases_lt}
use Rattle.std.specs.Prelude.{All}
use Rattle.std.specs.List.{enumerate_from}
use Rattle.std.proofs.lemmas.List.Elements.{All-from_get_or, All-get_or}
use Rattle.std.proofs.lemmas.List.FromFn.{get_or-enumerate_from, length-enumerate_from}
use Rattle.std.proofs.lemmas.List.Sorted.{All-permutation, Contains-permutation, length_permutation}
use Rattle.std.proofs.lemmas.List.{get_or_default, get_or_append_left, get_or_push, get_or-set_same, get_or-set_other}
use Rattle.query_engine.specs.Marks.{text_with, IsNumberOf}
use Rattle.query_engine.specs.Pairs.{Pair, IsAscending, IsSortOf, number_at, text_at, ComesBefore}
use Rattle.query_engine.specs.Ranks.{Ascend, AreNumbersOf, AreRanksIn, AreRanksOf, GoesOnAt}
use Rattle.query_engine.proofs.TextOrder.{before_itself, before_trans, before_or_same}

-- one text of those has one index
pub same_index : (ds : List (List ℕ)) → Ascend ds → (a b : ℕ) → a < length ds → b < length ds → text_with ds a ≡ text_with ds b → a ≡ b
same_index ds up a b la lb same = elim (cases_lt a b) [
  | inl low ↦ absurd (before_itself (text_with ds b) (let h = up a b low lb in rw same at h))
  | inr high ↦ elim (cases_lt b a) [
    | inl above ↦ absurd (before_itself (text_with ds b) (let h = up b a above la in rw same at h))
    | inr le ↦ omega arith
  ]
]

-- the last distinct text is that of the last pair
pub record IsLast (ps : List Pair) (ds : List (List ℕ)) (i : ℕ) : Type 0 where
  pub some : 0 < i → 0 < length ds
  pub text : 0 < i → text_with ds (length ds - 1) ≡ text_at ps (i - 1)
  pub few : length ds ≤ i

pub no_ranks : (ps : List Pair) (rs : List ℕ) → AreRanksIn ps [] rs 0
no_ranks ps rs = record {
  ascending = λ i j lt to. absurd (omega arith);
  each = λ j lt. absurd (omega arith);
  used = λ k lt. absurd (omega arith);
}

pub no_last : (ps : List Pair) → IsLast ps [] 0
no_last ps = record { some = λ lt. absurd (omega arith); text = λ lt. absurd (omega arith); few = omega arith }

module _ (ps : List Pair) (numbers : AreNumbersOf ps) (ds : List (List ℕ)) (rs : List ℕ) (i : ℕ) (within : i < length ps) (room : length ps ≤ length rs) (h : AreRanksIn ps ds rs i) where
  -- what holds of the ranks once the text stands among the distinct ones
  ranked_by : (es : List (List ℕ)) (r : ℕ) → Ascend es → length ds ≤ length es → ((k : ℕ) → k < length ds → text_with es k ≡ text_with ds k) → IsNumberOf es (text_at ps i) r
      → ((k : ℕ) → k < length es → (j : ℕ) × (j < i + 1) × (text_at ps j ≡ text_with es k)) → AreRanksIn ps es (set rs (number_at ps i) r) (i + 1)
  ranked_by es r up longer kept own used = record {
    ascending = up;
    each = λ j lt. by j lt (cases_lt (number_at ps j) (number_at ps i)) (cases_lt (number_at ps i) (number_at ps j));
    used = used;
  }
    where
      low : number_at ps i < length rs
      low = omega (arith, numbers.below i within)

      here : (j : ℕ) → j < i + 1 → number_at ps j ≡ number_at ps i → IsNumberOf es (text_at ps j) (get_or (set rs (number_at ps i) r) (number_at ps j) 0)
      here j lt same =
          let value : get_or (set rs (number_at ps i) r) (number_at ps j) 0 ≡ r = ap (λ (w : ℕ). get_or (set rs (number_at ps i) r) w 0) same ∙ get_or-set_same rs (number_at ps i) r 0 low in
          rw (value, numbers.same j i (omega arith) within same) own

      there : (j : ℕ) → j < i + 1 → number_at ps j ≢ number_at ps i → IsNumberOf es (text_at ps j) (get_or (set rs (number_at ps i) r) (number_at ps j) 0)
      there j lt other =
          let before : j < i = elim (cases_lt j i) [ inl less ↦ less | inr high ↦ absurd (other (ap (number_at ps) (omega arith))) ] in
          let old = h.each j before in
          rw (get_or-set_other rs (number_at ps i) (number_at ps j) r 0 other) (record { within = omega (arith, old.within); same = kept (get_or rs (number_at ps j) 0) old.within ∙ old.same })

      by : (j : ℕ) → j < i + 1 → (number_at ps j < number_at ps i) ⊎ (number_at ps i ≤ number_at ps j) → (number_at ps i < number_at ps j) ⊎ (number_at ps j ≤ number_at ps i) → IsNumberOf es (text_at ps j) (get_or (set rs (number_at ps i) r) (number_at ps j) 0)
      by j lt (inl less) b = there j lt (λ same. omega arith)
      by j lt (inr le) (inl more) = there j lt (λ same. omega arith)
      by j lt (inr le) (inr ge) = here j lt (omega arith)

  module _ (last : IsLast ps ds i) where
    -- a text that goes on
    pub ranks_on : GoesOnAt ps i → AreRanksIn ps ds (set rs (number_at ps i) (length ds - 1)) (i + 1)
    ranks_on on = ranked_by ds (length ds - 1) h.ascending (omega arith) (λ k lt. refl)
        (record { within = omega (arith, last.some on.some); same = last.text on.some ∙ sym on.same })
        (λ k lt. let u = h.used k lt in (u.0, omega (arith, u.1), u.2))

    pub last_on : GoesOnAt ps i → IsLast ps ds (i + 1)
    last_on on =
        let back : (i + 1) - 1 ≡ i = omega arith in
        record { some = λ lt. last.some on.some; text = λ lt. last.text on.some ∙ sym on.same ∙ ap (text_at ps) (sym back); few = omega (arith, last.few) }

    module _ (sorted : IsAscending ps) (new : GoesOnAt ps i → ⊥) where
      abbrev t : List ℕ
      t = text_at ps i

      -- the text before it comes before
      neighbour : 0 < i → ComesBefore (text_with ds (length ds - 1)) t
      neighbour some = rw (last.text some) (elim (before_or_same _ _ (sorted (i - 1) i (omega arith) within)) [
        | inl less ↦ less
        | inr same ↦ absurd (new (record { some = some; same = sym same }))
      ])

      first : 0 < length ds → 0 < i
      first some = omega (arith, last.few)

      behind : (k : ℕ) → k < length ds → ComesBefore (text_with ds k) t
      behind k lt = elim (cases_lt k (length ds - 1)) [
        | inl less ↦ before_trans (text_with ds k) (text_with ds (length ds - 1)) t (h.ascending k (length ds - 1) less (omega arith)) (neighbour (first (omega arith)))
        | inr high ↦
            let is : k ≡ length ds - 1 = omega arith in
            rw is (neighbour (first (omega arith)))
      ]

      abbrev es : List (List ℕ)
      es = ds ++ t ∷ []

      size : length es ≡ length ds + 1
      size = length-append ds (t ∷ [])

      old_at : (k : ℕ) → k < length ds → text_with es k ≡ text_with ds k
      old_at k lt = get_or_append_left ds (t ∷ []) [] k lt

      new_at : (k : ℕ) → length ds ≤ k → k < length es → text_with es k ≡ t
      new_at k from to = get_or_push ds t [] k (omega (arith, size))

      ascending : Ascend es
      ascending a b lt to = elim (cases_lt b (length ds)) [
        | inl low ↦ rw (old_at a (omega arith), old_at b low) (h.ascending a b lt low)
        | inr high ↦ rw (old_at a (omega (arith, size)), new_at b high to) (behind a (omega (arith, size)))
      ]

      pub ranks_new : AreRanksIn ps es (set rs (number_at ps i) (length es - 1)) (i + 1)
      ranks_new = ranked_by es (length es - 1) ascending (omega (arith, size)) old_at
          (record { within = omega (arith, size); same = new_at (length es - 1) (omega (arith, size)) (omega (arith, size)) })
          (λ k lt. elim (cases_lt k (length ds)) [
            | inl low ↦ let u = h.used k low in (u.0, omega (arith, u.1), u.2 ∙ sym (old_at k low))
            | inr high ↦ (i, omega arith, sym (new_at k high lt))
          ])

      pub last_new : IsLast ps es (i + 1)
      last_new =
          let back : (i + 1) - 1 ≡ i = omega arith in
          record { some = λ lt. omega (arith, size); text = λ lt. new_at (length es - 1) (omega (arith, size)) (omega (arith, size)) ∙ ap (text_at ps) (sym back); few = omega (arith, size, last.few) }

-- ---- sorted texts with their numbers

-- the number of the pair is that of its text
abbrev IsListed : List (List ℕ) → Pair → Type 0
IsListed ts p = IsNumberOf ts p.1 p.0

listed : (ts : List (List ℕ)) → All (IsListed ts) (enumerate_from 0 ts)
listed ts = All-from_get_or (IsListed ts) (enumerate_from 0 ts) (0, []) (λ i lt.
    let within : i < length ts = omega (arith, length-enumerate_from 0 ts) in
    let at : get_or (enumerate_from 0 ts) i (0, []) ≡ (i, get_or ts i []) = get_or-enumerate_from 0 ts i (0, []) within ∙ ap (λ (k : ℕ). (k, get_or ts i [])) (omega arith) in
    rw at (record { within = within; same = refl }))

module _ (ts : List (List ℕ)) (ps : List Pair) (sort : IsSortOf (enumerate_from 0 ts) ps) where
  pub size_is : length ps ≡ length ts
  size_is = length_permutation (enumerate_from 0 ts) ps sort.moved ∙ length-enumerate_from 0 ts

  at_pair : (j : ℕ) → j < length ps → IsNumberOf ts (text_at ps j) (number_at ps j)
  at_pair j lt = All-get_or (IsListed ts) ps j (0, []) lt (All-permutation (IsListed ts) (enumerate_from 0 ts) ps sort.moved (listed ts))

  pub numbers_are : AreNumbersOf ps
  numbers_are = record {
    below = λ j lt. omega (arith, (at_pair j lt).within, size_is);
    same = λ i j li lj same. sym (at_pair i li).same ∙ ap (text_with ts) same ∙ (at_pair j lj).same;
  }

  -- each number has a pair
  pair_of : (n : ℕ) → n < length ts → (j : ℕ) × (j < length ps) × (get_or ps j (n, text_with ts n) ≡ (n, text_with ts n))
  pair_of n lt = Contains-permutation (enumerate_from 0 ts) ps (n, text_with ts n) sort.moved
      (n, omega (arith, length-enumerate_from 0 ts), get_or-enumerate_from 0 ts n (n, text_with ts n) lt ∙ (λ i. (zero-add n i, get_or_default ts n (text_with ts n) [] lt i)))

  pub ranks_are : (ds : List (List ℕ)) (rs : List ℕ) (k : ℕ) → k ≡ length ps → length rs ≡ length ps → AreRanksIn ps ds rs k → AreRanksOf ts ds rs
  ranks_are ds rs k all size h = record {
    ascending = h.ascending;
    size = omega (arith, size_is);
    each = λ n lt.
        let found = pair_of n lt in
        let pair : get_or ps found.0 (0, []) ≡ (n, text_with ts n) = get_or_default ps found.0 (0, []) (n, text_with ts n) found.1 ∙ found.2 in
        let number : number_at ps found.0 ≡ n = ap (λ (p : Pair). p.0) pair in
        let text : text_at ps found.0 ≡ text_with ts n = ap (λ (p : Pair). p.1) pair in
        let right : IsNumberOf ds (text_at ps found.0) (get_or rs (number_at ps found.0) 0) = h.each found.0 (omega (arith, found.1)) in
        record { within = omega (arith, right.within, ap (λ (w : ℕ). get_or rs w 0) number); same = ap (λ (w : ℕ). text_with ds (get_or rs w 0)) (sym number) ∙ right.same ∙ text };
    used = λ r lt.
        let u = h.used r lt in
        let low : u.0 < length ps = omega (arith, u.1) in
        let right = h.each u.0 u.1 in
        (number_at ps u.0, (at_pair u.0 low).within, same_index ds h.ascending (get_or rs (number_at ps u.0) 0) r right.within lt (right.same ∙ u.2));
  }
