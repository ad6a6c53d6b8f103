-- The first name of each bucket.
use Rattle.std.proofs.Common.{◌≡◌, ◌≢◌, ℕ, suc, ◌+◌, ◌%◌, ◌<◌, ◌≤◌, Bool, true, false, cond, eqb, ltb, List, [], ◌∷◌, length, get_or, drop, set, map, Some, None, refl, sym, ap, ◌∙◌, arith, eq-eqb, inl, inr}
use Rattle.std.specs.Prelude.{option_map, unwrap_or}
use Rattle.std.specs.List.{prefix_len}
use mathlib.Core.Bool.{not}
use Rattle.std.proofs.lemmas.Bool.{cases_eq, lt-ltb}
use Rattle.std.proofs.lemmas.Bool.Decides.{nat_tests}
use Rattle.std.proofs.lemmas.List.{drop_more, drop_all, get_or-set_same, get_or-set_other, length-set, length-map, get_or-map, get_or_default, set-get_or}
use Rattle.std.proofs.lemmas.List.FromFn.{fill_by_all}
use Rattle.index_model.specs.Hashes.{name_hash}
use Rattle.index_model.specs.Layout.{below}
use Rattle.index_model.specs.NameIndex.{bucket}
use Rattle.debugnames_write.specs.declared.name.Name.{Name}
use Rattle.debugnames_write.specs.Names.{HaveBuckets}
use Rattle.debugnames_write.specs.Seen.{texts}

-- of these names, the first of which has a place, the place of the first one in a bucket, counted from 1, or 0
pub first_from : ℕ → ℕ → List (List ℕ) → ℕ → ℕ
first_from n k [] b = 0
first_from n k (t ∷ ts) b = cond (eqb (name_hash t % n) b) (k + 1) (first_from n (k + 1) ts b)

abbrev in_bucket : ℕ → ℕ → List ℕ → Bool
in_bucket n b t = eqb (name_hash t % n) b

-- it goes by the first place that passes
first_is : (n k b : ℕ) (ts : List (List ℕ)) → first_from n k ts b ≡ cond (ltb (prefix_len (λ t. not (in_bucket n b t)) ts) (length ts)) (k + prefix_len (λ t. not (in_bucket n b t)) ts + 1) 0
unfolding first_from
first_is n k b [] = refl
first_is n k b (t ∷ ts) = by (in_bucket n b t) refl (first_is n (k + 1) b ts)
  where
    q : List ℕ → Bool
    q t = not (in_bucket n b t)

    step : (p l : ℕ) → cond (ltb p l) (k + 1 + p + 1) 0 ≡ cond (ltb (1 + p) (suc l)) (k + (1 + p) + 1) 0
    step p l = grind (arith, nat_tests)

    by : (c : Bool) → in_bucket n b t ≡ c → first_from n (k + 1) ts b ≡ cond (ltb (prefix_len (λ t. not (in_bucket n b t)) ts) (length ts)) (k + 1 + prefix_len (λ t. not (in_bucket n b t)) ts + 1) 0
        → first_from n k (t ∷ ts) b ≡ cond (ltb (prefix_len (λ t. not (in_bucket n b t)) (t ∷ ts)) (length (t ∷ ts))) (k + prefix_len (λ t. not (in_bucket n b t)) (t ∷ ts) + 1) 0
    by true e rest = rw e (let some : 0 < suc (length ts) = omega arith in rw (lt-ltb 0 (suc (length ts)) some) (omega arith))
    by false e rest = rw e (rest ∙ step (prefix_len (λ t. not (in_bucket n b t)) ts) (length ts))

option_first : (p l : ℕ) → unwrap_or (option_map (λ k. k + 1) (cond (ltb p l) (Some p) None)) 0 ≡ cond (ltb p l) (0 + p + 1) 0
option_first p l = by (ltb p l)
  where
    by : (b : Bool) → unwrap_or (option_map (λ k. k + 1) (cond b (Some p) None)) 0 ≡ cond b (0 + p + 1) 0
    by true = omega arith
    by false = refl

bucket_is : (names : List (List ℕ)) (b : ℕ) → bucket names b ≡ first_from (length names) 0 names b
bucket_is names b = option_first (prefix_len (λ t. not (in_bucket (length names) b t)) names) (length names) ∙ sym (first_is (length names) 0 b names)

-- ---- the loop

-- what the table says, or what the names that are left will say
pub or_left : ℕ → ℕ → ℕ
or_left v left = cond (eqb v 0) left v

-- the table behind k names
pub record AreBuckets (names : List Name) (buckets : List ℕ) (k : ℕ) : Type 0 where
  pub long : length buckets ≡ length names
  pub each : (b : ℕ) → b < length names → or_left (get_or buckets b 0) (first_from (length names) k (drop k (texts names)) b) ≡ first_from (length names) 0 (texts names) b

module _ (names : List Name) where
  abbrev n : ℕ
  n = length names

  size : length (texts names) ≡ length names
  size = length-map names (λ (m : Name). m.text.now)

  pub buckets_none : (buckets : List ℕ) → length buckets ≡ length names → ((b : ℕ) → b < length names → get_or buckets b 0 ≡ 0) → AreBuckets names buckets 0
  unfolding or_left
  buckets_none buckets long zeros = record { long = long; each = λ b lt. rw (zeros b lt) refl }

  pub buckets_all : (buckets : List ℕ) (k : ℕ) → length names ≤ k → AreBuckets names buckets k → buckets ≡ map (bucket (texts names)) (below (length names))
  unfolding or_left first_from
  buckets_all buckets k le h = fill_by_all (bucket (texts names)) buckets (length names) 0 h.long (λ b lt.
      let none : drop k (texts names) ≡ [] = drop_all k (texts names) (omega (arith, size)) in
      let said = rw none at (h.each b lt) in
      let same : or_left (get_or buckets b 0) 0 ≡ get_or buckets b 0 = keeps (get_or buckets b 0) in
      let modulus : first_from (length names) 0 (texts names) b ≡ first_from (length (texts names)) 0 (texts names) b = ap (λ (m : ℕ). first_from m 0 (texts names) b) (sym size) in
      sym same ∙ said ∙ modulus ∙ sym (bucket_is (texts names) b))
    where
      keeps : (v : ℕ) → or_left v 0 ≡ v
      keeps v = grind (arith, nat_tests)

  module _ (buckets : List ℕ) (k : ℕ) (x : Name) (lt : k < length names) (at : get_or (texts names) k [] ≡ x.text.now) (own : x.bucket ≡ name_hash x.text.now % length names) (within : x.bucket < length names) (h : AreBuckets names buckets k) where
    -- what is left begins with this name
    left_is : (b : ℕ) → first_from (length names) k (drop k (texts names)) b ≡ cond (eqb x.bucket b) (k + 1) (first_from (length names) (k + 1) (drop (k + 1) (texts names)) b)
    unfolding first_from
    left_is b =
        let cut : drop k (texts names) ≡ x.text.now ∷ drop (k + 1) (texts names) = rw (drop_more (texts names) k [] (omega (arith, size)), at) refl in
        ap (λ (w : List (List ℕ)). first_from (length names) k w b) cut ∙ ap (λ (m : ℕ). cond (eqb m b) (k + 1) (first_from (length names) (k + 1) (drop (k + 1) (texts names)) b)) (sym own)

    other : (b : ℕ) → b < length names → x.bucket ≢ b → or_left (get_or buckets b 0) (first_from (length names) (k + 1) (drop (k + 1) (texts names)) b) ≡ first_from (length names) 0 (texts names) b
    other b less ne =
        let test : eqb x.bucket b ≡ false = grind (arith, nat_tests) in
        let same : first_from (length names) k (drop k (texts names)) b ≡ first_from (length names) (k + 1) (drop (k + 1) (texts names)) b = left_is b ∙ rw test refl in
        ap (or_left (get_or buckets b 0)) (sym same) ∙ h.each b less

    said : or_left (get_or buckets x.bucket 0) (k + 1) ≡ first_from (length names) 0 (texts names) x.bucket
    said =
        let test : eqb x.bucket x.bucket ≡ true = eq-eqb x.bucket x.bucket refl in
        let here : first_from (length names) k (drop k (texts names)) x.bucket ≡ k + 1 = left_is x.bucket ∙ rw test refl in
        ap (or_left (get_or buckets x.bucket 0)) (sym here) ∙ h.each x.bucket within

    -- the first name of its bucket
    pub buckets_set : get_or buckets x.bucket 0 ≡ 0 → AreBuckets names (set buckets x.bucket (k + 1)) (k + 1)
    unfolding or_left
    buckets_set empty = record {
      long = length-set buckets x.bucket (k + 1) ∙ h.long;
      each = λ b less. elim (cases_eq x.bucket b) [
        | inl same ↦
            let first : k + 1 ≡ first_from (length names) 0 (texts names) x.bucket = (let s = rw empty at said in s) in
            let put : get_or (set buckets x.bucket (k + 1)) x.bucket 0 ≡ k + 1 = get_or-set_same buckets x.bucket (k + 1) 0 (omega (arith, h.long)) in
            let some : eqb (k + 1) 0 ≡ false = grind (arith, nat_tests) in
            rw (← same) (rw (put, some) first)
        | inr ne ↦
            let ne2 : b ≢ x.bucket = λ e. ne (sym e) in
            rw (get_or-set_other buckets x.bucket b (k + 1) 0 ne2) (other b less ne)
      ];
    }

    -- another name of a bucket
    pub buckets_keep : (get_or buckets x.bucket 0 ≡ 0 → ⊥) → AreBuckets names buckets (k + 1)
    unfolding or_left
    buckets_keep some = record {
      long = h.long;
      each = λ b less. elim (cases_eq x.bucket b) [
        | inl same ↦
            let test : eqb (get_or buckets x.bucket 0) 0 ≡ false = grind (arith, nat_tests) in
            let first : get_or buckets x.bucket 0 ≡ first_from (length names) 0 (texts names) x.bucket = (let s = rw test at said in s) in
            rw (← same) (rw test first)
        | inr ne ↦ other b less ne
      ];
    }

-- ---- the same with the name as it is read, and what its bucket has

module _ (names : List Name) (buckets : List ℕ) (k : ℕ) (d : Name) (v : ℕ) (lt : k < length names) (right : HaveBuckets names) (is : v ≡ get_or buckets (get_or names k d).bucket v) (h : AreBuckets names buckets k) where
  own_text : get_or (texts names) k [] ≡ (get_or names k d).text.now
  own_text = get_or-map (λ (m : Name). m.text.now) names k d [] lt

  own_is : get_or buckets (get_or names k d).bucket 0 ≡ v
  own_is = let r = right k d lt in get_or_default buckets (get_or names k d).bucket 0 v (omega (arith, h.long, r.1)) ∙ sym is

  pub buckets_put : v ≡ 0 → AreBuckets names (set buckets (get_or names k d).bucket (k + 1)) (k + 1)
  buckets_put empty = let r = right k d lt in buckets_set names buckets k (get_or names k d) lt own_text r.0 r.1 h (own_is ∙ empty)

  pub buckets_same : (v ≡ 0 → ⊥) → AreBuckets names (set buckets (get_or names k d).bucket v) (k + 1)
  buckets_same some =
      let r = right k d lt in
      let unchanged : set buckets (get_or names k d).bucket v ≡ buckets = ap (set buckets (get_or names k d).bucket) is ∙ set-get_or buckets (get_or names k d).bucket v in
      rw unchanged (buckets_keep names buckets k (get_or names k d) lt own_text r.0 r.1 h (λ e. some (sym own_is ∙ e)))
