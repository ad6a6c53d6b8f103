-- A bucket, name by name.
use Rattle.std.proofs.Common.{◌≡◌, ◌⊎◌, inl, inr, ℕ, ◌+◌, ◌-◌, ◌%◌, ◌<◌, ◌≤◌, Bool, true, false, ◌&&◌, eqb, ltb, leb, List, length, take, drop, get_or, refl, arith, ap, sym, subst, ◌∙◌}
use Rattle.std.specs.Prelude.{slice_range}
use Rattle.std.specs.List.{list_all}
use Rattle.std.proofs.lemmas.Bool.{ltb-false, eq-eqb, ne_eqb, eqb-true, le-leb, leb-true, lt-ltb, ltb-true, and_parts}
use Rattle.std.proofs.lemmas.Option.{unwrap_or-slice_get}
use Rattle.std.proofs.lemmas.List.{length-drop, length-take, get_or-take, get_or-drop}
use Rattle.std.proofs.lemmas.List.Folds.{list_all_more, list_all_at}
use Rattle.index_model.specs.Layout.{nth}
use Rattle.index_model.specs.NameIndexRead.{is_in_bucket}
use Rattle.index_model.specs.NameTables.{Tables}

module _ (t : Tables) where
  -- how many buckets there are
  abbrev count : ℕ
  count = length t.buckets.numbers

  -- the bucket of a name
  abbrev pub own : ℕ → ℕ
  own k = nth t.hashes.numbers k % count

  -- where the bucket of a name begins
  abbrev pub begin : ℕ → ℕ
  begin k = nth t.buckets.numbers (own k)

  -- a hash is of a bucket
  abbrev of_bucket : ℕ → ℕ → Bool
  of_bucket b h = eqb (h % count) b

  abbrev between : ℕ → ℕ → Bool
  between k from = list_all (of_bucket (own k)) (slice_range t.hashes.numbers from k)

  abbrev tested : ℕ → Bool
  tested k = ltb 0 (begin k) && leb (begin k) (k + 1) && between k (begin k - 1)

  is_tested : (k : ℕ) → is_in_bucket t k ≡ tested k
  unfolding is_in_bucket
  is_tested k = refl

  pub record InBucket (k : ℕ) : Type 0 where
    pub some : 0 < begin k
    pub before : begin k ≤ k + 1
    pub alone : between k (begin k - 1) ≡ true

  pub in_bucket : (k : ℕ) → is_in_bucket t k ≡ true → InBucket k
  in_bucket k e =
      let a = and_parts (ltb 0 (begin k) && leb (begin k) (k + 1)) (between k (begin k - 1)) (sym (is_tested k) ∙ e) in
      let b = and_parts (ltb 0 (begin k)) (leb (begin k) (k + 1)) a.0 in
      record { some = ltb-true 0 (begin k) b.0; before = leb-true (begin k) (k + 1) b.1; alone = a.1 }

  by_parts : (k : ℕ) → InBucket k → is_in_bucket t k ≡ true
  by_parts k p = is_tested k ∙ rw (lt-ltb 0 (begin k) p.some, le-leb (begin k) (k + 1) p.before, p.alone) refl

  -- the first name of a bucket
  pub bucket_begins : (k : ℕ) → begin k ≡ k + 1 → is_in_bucket t k ≡ true
  bucket_begins k e =
      let none : k - (begin k - 1) ≡ 0 = omega (arith, e) in
      by_parts k (record { some = omega (arith, e); before = omega (arith, e); alone = ap (λ (n : ℕ). list_all (of_bucket (own k)) (take n (drop (begin k - 1) t.hashes.numbers))) none })

  nth_is : (k : ℕ) → nth t.hashes.numbers k ≡ get_or t.hashes.numbers k 0
  nth_is k = unwrap_or-slice_get t.hashes.numbers k 0

  same_begin : (j k : ℕ) → own j ≡ own k → begin j ≡ begin k
  same_begin j k e = ap (nth t.buckets.numbers) e

  -- a name behind one of its bucket
  pub bucket_goes : (j k : ℕ) → k ≡ j + 1 → j < length t.hashes.numbers → is_in_bucket t j ≡ true → own j ≡ own k → is_in_bucket t k ≡ true
  bucket_goes j k e within before same =
      let p = in_bucket j before in
      let b : begin j ≡ begin k = same_begin j k same in
      let from : ℕ = begin k - 1 in
      let m : ℕ = j - from in
      let rest : List ℕ = drop from t.hashes.numbers in
      let more : k - from ≡ m + 1 = omega (arith, e, b, p.some, p.before) in
      let long : m < length rest = omega (arith, within, length-drop from t.hashes.numbers, b, p.some, p.before) in
      let place : from + m ≡ j = omega (arith, b, p.some, p.before) in
      let last : get_or rest m 0 ≡ get_or t.hashes.numbers j 0 = get_or-drop from t.hashes.numbers m 0 ∙ ap (λ (n : ℕ). get_or t.hashes.numbers n 0) place in
      let of_it : of_bucket (own k) (get_or rest m 0) ≡ true = ap (of_bucket (own k)) (last ∙ sym (nth_is j)) ∙ eq-eqb (own j) (own k) same in
      let front : list_all (of_bucket (own k)) (take m rest) ≡ true = subst (λ (x : ℕ). list_all (of_bucket x) (take m rest) ≡ true) same (subst (λ (x : ℕ). list_all (of_bucket (own j)) (take (j - (x - 1)) (drop (x - 1) t.hashes.numbers)) ≡ true) b p.alone) in
      by_parts k (record {
        some = omega (arith, b, p.some);
        before = omega (arith, e, b, p.before);
        alone = ap (λ (n : ℕ). list_all (of_bucket (own k)) (take n rest)) more ∙ list_all_more (of_bucket (own k)) rest m 0 long ∙ rw (front, of_it) refl;
      })

  -- a name that stands elsewhere
  pub bucket_lost : (j k : ℕ) → k ≡ j + 1 → j < length t.hashes.numbers → (begin k ≡ k + 1 → ⊥) → (own j ≡ own k → ⊥) → is_in_bucket t k ≡ false
  bucket_lost j k e within first other = is_tested k ∙ by (ltb 0 (begin k)) refl (leb (begin k) (k + 1)) refl
    where
      last : 0 < begin k → begin k ≤ k + 1 → between k (begin k - 1) ≡ false
      last some before =
          let from : ℕ = begin k - 1 in
          let m : ℕ = j - from in
          let rest : List ℕ = drop from t.hashes.numbers in
          let part : List ℕ = take (k - from) rest in
          let place : from + m ≡ j = omega (arith, e, some, before, first) in
          let inside : m < k - from = omega (arith, e, some, before, first) in
          let long : m < length part = omega (arith, inside, within, place, length-take (k - from) rest, length-drop from t.hashes.numbers) in
          let is : get_or part m 0 ≡ nth t.hashes.numbers j = get_or-take (k - from) rest m 0 inside ∙ get_or-drop from t.hashes.numbers m 0 ∙ ap (λ (n : ℕ). get_or t.hashes.numbers n 0) place ∙ sym (nth_is j) in
          list_all_at (of_bucket (own k)) part m 0 long (ap (of_bucket (own k)) is ∙ ne_eqb (own j) (own k) other)

      by : (a : Bool) → ltb 0 (begin k) ≡ a → (b : Bool) → leb (begin k) (k + 1) ≡ b → (a && b && between k (begin k - 1)) ≡ false
      by false x b y = refl
      by true x false y = refl
      by true x true y = last (ltb-true 0 (begin k) x) (leb-true (begin k) (k + 1) y)

  pub bucket_first : (k : ℕ) → k ≡ 0 → (begin k ≡ k + 1 → ⊥) → is_in_bucket t k ≡ false
  bucket_first k e first = is_tested k ∙ by (ltb 0 (begin k)) refl (leb (begin k) (k + 1)) refl
    where
      by : (a : Bool) → ltb 0 (begin k) ≡ a → (b : Bool) → leb (begin k) (k + 1) ≡ b → (a && b && between k (begin k - 1)) ≡ false
      by false x b y = refl
      by true x false y = refl
      by true x true y = absurd (omega (arith, e, first, ltb-true 0 (begin k) x, leb-true (begin k) (k + 1) y))

  -- whether a name is in its bucket, by the name before it
  pub bucket_by_last : (j k : ℕ) → k ≡ j + 1 → j < length t.hashes.numbers → is_in_bucket t j ≡ true → (begin k ≡ k + 1 → ⊥) → eqb (own j) (own k) ≡ is_in_bucket t k
  bucket_by_last j k e within before first = by (eqb (own j) (own k)) refl
    where
      by : (b : Bool) → eqb (own j) (own k) ≡ b → b ≡ is_in_bucket t k
      by true x = sym (bucket_goes j k e within before (eqb-true (own j) (own k) x))
      by false x = sym (bucket_lost j k e within first (λ same. differs (sym (eq-eqb (own j) (own k) same) ∙ x)))
        where
          differs : true ≡ false → ⊥
          differs e = cc

  -- all names from the beginning of its bucket up to a name are of the bucket
  pub all_own : (k : ℕ) → k < length t.hashes.numbers → is_in_bucket t k ≡ true → (i : ℕ) → begin k - 1 ≤ i → i ≤ k → own i ≡ own k
  all_own k within e i from to =
      let p = in_bucket k e in
      by p (i_or_k (ltb i k) refl)
    where
      i_or_k : (b : Bool) → ltb i k ≡ b → (i < k) ⊎ (i ≡ k)
      i_or_k true x = inl (ltb-true i k x)
      i_or_k false x = inr (omega (arith, to, ltb_out x))
        where
          ltb_out : ltb i k ≡ false → k ≤ i
          ltb_out x = ltb-false i k x

      by : InBucket k → (i < k) ⊎ (i ≡ k) → own i ≡ own k
      by p (inr same) = ap own same
      by p (inl lt) =
          let start : ℕ = begin k - 1 in
          let rest : List ℕ = drop start t.hashes.numbers in
          let part : List ℕ = take (k - start) rest in
          let m : ℕ = i - start in
          let place : start + m ≡ i = omega (arith, from) in
          let inside : m < k - start = omega (arith, lt, from) in
          let long : m < length part = omega (arith, inside, within, place, lt, length-take (k - start) rest, length-drop start t.hashes.numbers) in
          let is : get_or part m 0 ≡ nth t.hashes.numbers i = get_or-take (k - start) rest m 0 inside ∙ get_or-drop start t.hashes.numbers m 0 ∙ ap (λ (n : ℕ). get_or t.hashes.numbers n 0) place ∙ sym (nth_is i) in
          one part m long is (of_bucket (own k) (get_or part m 0)) refl p.alone
        where
          one : (part : List ℕ) (m : ℕ) → m < length part → get_or part m 0 ≡ nth t.hashes.numbers i → (b : Bool) → of_bucket (own k) (get_or part m 0) ≡ b → list_all (of_bucket (own k)) part ≡ true → own i ≡ own k
          one part m long is true x all = eqb-true (own i) (own k) (ap (of_bucket (own k)) (sym is) ∙ x)
          one part m long is false x all = absurd (differs (sym (list_all_at (of_bucket (own k)) part m 0 long x) ∙ all))
            where
              differs : false ≡ true → ⊥
              differs e = cc
