-- The buckets and the hashes that were written read back.
use Rattle.std.proofs.Common.{◌≡◌, ℕ, zero, suc, ◌+◌, ◌-◌, ◌*◌, ◌%◌, ◌^◌, ◌<◌, ◌≤◌, Bool, true, false, cond, eqb, ltb, leb, List, [], ◌∷◌, length, get_or, take, drop, map, Some, None, Ok, refl, ap, ◌∙◌, subst, inl, inr, arith, length-take, ltb-true, eq-eqb, ⊎_elim}
use Rattle.std.specs.Prelude.{All, unwrap_or, option_map, slice_range}
use Rattle.std.specs.List.{position_or_len, list_all, list_any, fold}
use mathlib.Core.Bool.{◌&&◌, ◌||◌}
use Rattle.std.proofs.Math.Nat.{mod-lt}
use Rattle.std.proofs.lemmas.Bool.{lt-ltb, le-leb, eqb-true, cases_lt}
use Rattle.std.proofs.lemmas.List.{get_or-map, get_or-take, get_or-drop, length-map}
use Rattle.std.proofs.lemmas.List.FromFn.{get_or-map-range_with_len, length-map-range_with_len}
use Rattle.std.proofs.lemmas.List.Sums.{list_all-from_AllPass}
use Rattle.std.proofs.lemmas.Option.{unwrap_or-slice_get}
use Rattle.std.proofs.Math.Bool.{or-true}
use Rattle.index_model.specs.Hashes.{name_hash, lower}
use Rattle.index_model.specs.Layout.{below, nth}
use Rattle.index_model.specs.NameIndex.{name_lt, bucket}
use Rattle.index_model.specs.Ordered.{bytes_lt}
use Rattle.index_model.specs.NameTables.{Tables}
use Rattle.index_model.specs.NameIndexRead.{has_hash, is_in_bucket, is_hashed}
use Rattle.index_model.proofs.Pairs.{Pairs, all_pairs}
use Rattle.index_model.proofs.IndexOrders.{name_order}
use Rattle.index_model.proofs.Orders.{first_or_same}
use Rattle.index_alike.proofs.NamesOrder.{Below}

-- ---- hashes

hash_from : (h : ℕ) (name : List ℕ) → h < 4294967296 → fold (λ h c. (h * 33 + lower c) % 2 ^ 32) h name < 4294967296
hash_from h [] lt = lt
hash_from h (c ∷ name) lt = hash_from ((h * 33 + lower c) % 2 ^ 32) name (mod-lt (h * 33 + lower c) (omega arith))

pub hash_fits : (name : List ℕ) → name_hash name < 4294967296
unfolding name_hash
hash_fits name = hash_from 5381 name (omega arith)

-- ---- first places

module _ {A : Type 0} (p : A → Bool) where
  -- the first item that passes stands no later than any other
  pub first_up : (xs : List A) (k : ℕ) (d : A) → k < length xs → p (get_or xs k d) ≡ true → position_or_len p xs ≤ k
  first_up [] k d lt e = absurd (omega arith)
  first_up (x ∷ xs) zero d lt e = rw e (omega arith)
  first_up (x ∷ xs) (suc k) d lt e = by (p x) refl (first_up xs k d (omega arith) e)
    where
      by : (b : Bool) → p x ≡ b → position_or_len p xs ≤ k → position_or_len p (x ∷ xs) ≤ suc k
      by true f rest = rw f (omega arith)
      by false f rest = rw f (omega (arith, rest))

  pub first_passes : (xs : List A) (d : A) → position_or_len p xs < length xs → p (get_or xs (position_or_len p xs) d) ≡ true
  first_passes [] d lt = absurd (omega arith)
  first_passes (x ∷ xs) d lt = by (p x) refl lt (first_passes xs d)
    where
      by : (b : Bool) → p x ≡ b → position_or_len p (x ∷ xs) < suc (length xs) → (position_or_len p xs < length xs → p (get_or xs (position_or_len p xs) d) ≡ true) → p (get_or (x ∷ xs) (position_or_len p (x ∷ xs)) d) ≡ true
      by true f within rest = rw f f
      by false f within rest =
          let n : ℕ = position_or_len p xs in
          let next : 1 + n ≡ suc n = omega arith in
          let inner : 1 + n < suc (length xs) = rw f at within in
          rw f (ap (λ (k : ℕ). p (get_or (x ∷ xs) k d)) next ∙ rest (omega (arith, inner)))

-- a name's bucket
abbrev in_bucket : ℕ → ℕ → List ℕ → Bool
in_bucket n b t = eqb (name_hash t % n) b

bucket_at : (names : List (List ℕ)) (b : ℕ) → position_or_len (in_bucket (length names) b) names < length names → bucket names b ≡ position_or_len (in_bucket (length names) b) names + 1
bucket_at names b lt =
    let n : ℕ = position_or_len (in_bucket (length names) b) names in
    ap (λ (c : Bool). unwrap_or (option_map (λ k. k + 1) (cond c (Some n) None)) 0) (lt-ltb n (length names) lt)

pub bucket_low : (names : List (List ℕ)) (b : ℕ) → bucket names b ≤ length names
bucket_low names b = by (ltb (position_or_len (in_bucket (length names) b) names) (length names)) refl
  where
    by : (c : Bool) → ltb (position_or_len (in_bucket (length names) b) names) (length names) ≡ c → bucket names b ≤ length names
    by true e = let lt = ltb-true _ _ e in let at = bucket_at names b lt in omega (arith, lt, at)
    by false e = rw e (omega arith)

-- ---- the bucket of a name

-- the test of a bucket, by its parts
abbrev holds_all : ℕ → ℕ → ℕ → List ℕ → ℕ → Bool
holds_all count own begin hashes k = ltb 0 begin && leb begin (k + 1) && list_all (λ h. eqb (h % count) own) (slice_range hashes (begin - 1) k)

both : (a b c : Bool) → a ≡ true → b ≡ true → c ≡ true → (a && b && c) ≡ true
both a b c e f g = rw (e, f, g) refl

nth_is : (xs : List ℕ) (k : ℕ) → nth xs k ≡ get_or xs k 0
nth_is xs k = unwrap_or-slice_get xs k 0

hashed_steps : (t : Tables) (k : ℕ) (name : List ℕ) → has_hash name (nth t.hashes.numbers k) ≡ true → is_in_bucket t k ≡ true → is_hashed t k name ≡ Ok (record {})
unfolding is_hashed
hashed_steps t k name hash own = by (eqb (length t.buckets.numbers) 0) refl
  where
    by : (b : Bool) → eqb (length t.buckets.numbers) 0 ≡ b → is_hashed t k name ≡ Ok (record {})
    by true e = rw e refl
    by false e = rw (e, hash, own) refl

module _ (names : List (List ℕ)) (rises : Pairs (Below (name_lt (length names)) (name_order (length names))) names) where
  abbrev n : ℕ
  n = length names

  abbrev hash_at : ℕ → ℕ
  hash_at k = name_hash (get_or names k [])

  abbrev hashes : List ℕ
  hashes = map name_hash names

  abbrev buckets : List ℕ
  buckets = map (bucket names) (below (length names))

  hash_is : (k : ℕ) (d : ℕ) → k < length names → get_or hashes k d ≡ hash_at k
  hash_is k d lt = get_or-map name_hash names k [] d lt

  -- buckets don't fall
  up : (i j : ℕ) → i < j → j < length names → hash_at i % n ≤ hash_at j % n
  up i j lt to =
      let a = get_or names i [] in
      let b = get_or names j [] in
      let h : name_lt n a b ≡ true = all_pairs (Below (name_lt n) (name_order n)) names rises i j [] lt to in
      ⊎_elim (λ (l : name_hash a % n < name_hash b % n). omega (arith, l)) (λ (s : (name_hash a % n ≡ name_hash b % n) × ((ltb (name_hash a) (name_hash b) || (eqb (name_hash a) (name_hash b) && bytes_lt a b)) ≡ true)). omega (arith, s.0))
      (first_or_same (name_hash a % n) (name_hash b % n) (ltb (name_hash a) (name_hash b) || (eqb (name_hash a) (name_hash b) && bytes_lt a b)) h)

  up_to : (i j : ℕ) → i ≤ j → j < length names → hash_at i % n ≤ hash_at j % n
  up_to i j le to = elim (cases_lt i j) [
    | inl lt ↦ up i j lt to
    | inr same ↦ let e : i ≡ j = omega arith in subst (λ (k : ℕ). hash_at i % n ≤ hash_at k % n) e (omega arith)
  ]

  -- all names of a bucket up to one of them
  bucket_holds : (k : ℕ) → k < length names → holds_all n (hash_at k % n) (position_or_len (in_bucket n (hash_at k % n)) names + 1) hashes k ≡ true
  bucket_holds k lt =
      let own : ℕ = hash_at k % n in
      let first : ℕ = position_or_len (in_bucket n own) names in
      let low : first ≤ k = first_up (in_bucket n own) names k [] lt (eq-eqb own own refl) in
      let passes : hash_at first % n ≡ own = eqb-true _ _ (first_passes (in_bucket n own) names [] (omega (arith, low))) in
      let start : first + 1 - 1 ≡ first = omega arith in
      let long : length hashes ≡ n = length-map names name_hash in
      let all : All (λ h. eqb (h % n) own ≡ true) (take (k - first) (drop first hashes)) = λ j d less.
      let in_slice : j < k - first = omega (arith, less, length-take (k - first) (drop first hashes)) in
      let at : get_or (take (k - first) (drop first hashes)) j d ≡ hash_at (first + j) = get_or-take (k - first) (drop first hashes) j d in_slice ∙ get_or-drop first hashes j d ∙ hash_is (first + j) d (omega arith) in
      let above = up_to first (first + j) (omega arith) (omega arith) in
      let under = up_to (first + j) k (omega arith) lt in
      let same : hash_at (first + j) % n ≡ own = omega (arith, above, under, passes) in
      ap (λ (h : ℕ). eqb (h % n) own) at ∙ eq-eqb _ _ same in
      both (ltb 0 (first + 1)) (leb (first + 1) (k + 1)) (list_all (λ h. eqb (h % n) own) (slice_range hashes (first + 1 - 1) k))
      (lt-ltb 0 (first + 1) (omega arith)) (le-leb (first + 1) (k + 1) (omega (arith, low)))
      (ap (λ (s : ℕ). list_all (λ h. eqb (h % n) own) (slice_range hashes s k)) start ∙ list_all-from_AllPass (λ h. eqb (h % n) own) (take (k - first) (drop first hashes)) all)

  module _ (t : Tables) (buckets_are : t.buckets.numbers ≡ buckets) (hashes_are : t.hashes.numbers ≡ hashes) where
    count_is : length t.buckets.numbers ≡ n
    count_is = ap (λ (w : List ℕ). length w) buckets_are ∙ length-map-range_with_len (bucket names) 0 n

    module _ (k : ℕ) (lt : k < length names) where
      hash_read : nth t.hashes.numbers k ≡ hash_at k
      hash_read = nth_is t.hashes.numbers k ∙ ap (λ (w : List ℕ). get_or w k 0) hashes_are ∙ hash_is k 0 lt

      own_is : nth t.hashes.numbers k % length t.buckets.numbers ≡ hash_at k % n
      own_is i = hash_read i % count_is i

      begin_is : nth t.buckets.numbers (nth t.hashes.numbers k % length t.buckets.numbers) ≡ position_or_len (in_bucket n (hash_at k % n)) names + 1
      begin_is =
          let own : ℕ = hash_at k % n in
          let small : own < n = mod-lt (hash_at k) (omega arith) in
          let low : position_or_len (in_bucket n own) names ≤ k = first_up (in_bucket n own) names k [] lt (eq-eqb own own refl) in
          (λ i. nth (buckets_are i) (own_is i)) ∙ nth_is buckets own ∙ get_or-map-range_with_len (bucket names) 0 n own own 0 small (omega arith) ∙ bucket_at names own (omega (arith, low))

      pub in_bucket_is : is_in_bucket t k ≡ true
      unfolding is_in_bucket
      in_bucket_is = (λ i. holds_all (count_is i) (own_is i) (begin_is i) (hashes_are i) k) ∙ bucket_holds k lt

      pub hashed_is : is_hashed t k (get_or names k []) ≡ Ok (record {})
      hashed_is =
          let name = get_or names k [] in
          let hash : has_hash name (nth t.hashes.numbers k) ≡ true = ap (λ (b : Bool). list_any (λ c. leb 0x80 c) name || b) (eq-eqb _ _ hash_read) ∙ or-true (list_any (λ c. leb 0x80 c) name) in
          hashed_steps t k name hash in_bucket_is
