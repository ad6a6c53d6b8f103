-- LEB numbers, read from their last byte to the first.
use Rattle.std.proofs.Common.{◌≡◌, ℕ, zero, suc, ◌+◌, ◌-◌, ◌*◌, ◌^◌, ◌<◌, ◌≤◌, Bool, true, false, cond, ltb, List, [], ◌∷◌, length, get_or, drop, Some, None, refl, inl, inr, arith, add-one, drop-cons}
use Rattle.std.specs.List.{position, position_or_len}
use Rattle.std.proofs.lemmas.Bool.{ltb-false, ltb-true, lt-ltb, le-ltb, cases_lt}
use Rattle.std.proofs.lemmas.List.Quantifiers.{position-Some}
use Rattle.ix_base.specs.Reading.{unsigned_leb, leb64}

abbrev pub is_last : ℕ → Bool
is_last b = ltb b 128

leb_endless : (bs : List ℕ) → length bs ≤ position_or_len is_last bs → unsigned_leb bs ≡ None
unfolding unsigned_leb
leb_endless [] h = refl
leb_endless (b ∷ bs) h =
    elim (cases_lt b 128) [
      | inl lt ↦ let e : ltb b 128 ≡ true = lt-ltb b 128 lt in absurd (omega (arith, rw e at h))
      | inr le ↦ let e : ltb b 128 ≡ false = le-ltb b 128 le in rw (e, leb_endless bs (omega (arith, rw e at h))) refl
    ]

pub none_is : (n len : ℕ) → cond (ltb n len) (Some n) None ≡ None → len ≤ n
none_is n len h =
    elim (cases_lt n len) [
      | inl lt ↦ absurd (let e : ltb n len ≡ true = lt-ltb n len lt in let g = rw e at h in cc)
      | inr le ↦ le
    ]

-- no byte ends the number
pub no_end : (bs : List ℕ) → position is_last bs ≡ None → leb64 bs ≡ None
no_end bs h = rw (leb_endless bs (none_is (position_or_len is_last bs) (length bs) h)) refl

-- the number that begins one byte earlier
pub one_more : (bs : List ℕ) (k v n : ℕ) → k < length bs → 128 ≤ get_or bs k 0 → unsigned_leb (drop (k + 1) bs) ≡ Some (v, n) → unsigned_leb (drop k bs) ≡ Some (get_or bs k 0 - 128 + 128 * v, n + 1)
unfolding unsigned_leb
one_more bs k v n lt high h =
    let e : ltb (get_or bs k 0) 128 ≡ false = le-ltb (get_or bs k 0) 128 high in
    let g = rw add-one at h in
    rw (drop-cons bs k 0 lt, e, g) refl

-- the number that begins at its last byte
pub at_last : (bs : List ℕ) (k : ℕ) → k < length bs → get_or bs k 0 < 128 → unsigned_leb (drop k bs) ≡ Some (get_or bs k 0, 1)
unfolding unsigned_leb
at_last bs k lt low =
    let e : ltb (get_or bs k 0) 128 ≡ true = lt-ltb (get_or bs k 0) 128 low in
    rw (drop-cons bs k 0 lt, e) refl

-- where a part is too large, the whole is
pub too_large : (bs : List ℕ) (k v n : ℕ) → k ≤ length bs → ((j : ℕ) → j < k → 128 ≤ get_or bs j 0) → unsigned_leb (drop k bs) ≡ Some (v, n) → 2 ^ 64 ≤ v → leb64 bs ≡ None
too_large bs zero v n le high h large =
    let e : ltb v (2 ^ 64) ≡ false = le-ltb v (2 ^ 64) large in
    rw (h, e) refl
too_large bs (suc k) v n le high h large =
    too_large bs k (get_or bs k 0 - 128 + 128 * v) (n + 1) (omega arith) (λ j lt. high j (omega arith)) (one_more bs k v n (omega arith) (high k (omega arith)) (rw (add-one k) h)) (omega arith)

-- ---- the loop from the last byte down to the first

module _ (bs : List ℕ) (last : ℕ) (ends : position is_last bs ≡ Some last) where
  inside : last < length bs
  inside = (position-Some is_last bs last 0 ends).0

  pub is_high : (j : ℕ) → j < last → 128 ≤ get_or bs j 0
  is_high j lt = ltb-false (get_or bs j 0) 128 ((position-Some is_last bs last 0 ends).2 j lt)

  pub begins : unsigned_leb (drop last bs) ≡ Some (get_or bs last 0, last + 1 - last)
  begins =
      let one : last + 1 - last ≡ 1 = omega arith in
      rw one (at_last bs last inside (ltb-true (get_or bs last 0) 128 (position-Some is_last bs last 0 ends).1))

  pub goes_on : (k v : ℕ) → 0 < k → k ≤ last → unsigned_leb (drop k bs) ≡ Some (v, last + 1 - k) → unsigned_leb (drop (k - 1) bs) ≡ Some (v * 128 + (get_or bs (k - 1) 0 - 128), last + 1 - (k - 1))
  goes_on k v pos le h =
      let i : k - 1 + 1 ≡ k = omega arith in
      let g : unsigned_leb (drop (k - 1 + 1) bs) ≡ Some (v, last + 1 - k) = rw i h in
      let e = one_more bs (k - 1) v (last + 1 - k) (omega (arith, inside)) (is_high (k - 1) (omega arith)) g in
      let a : get_or bs (k - 1) 0 - 128 + 128 * v ≡ v * 128 + (get_or bs (k - 1) 0 - 128) = omega arith in
      let b : last + 1 - k + 1 ≡ last + 1 - (k - 1) = omega arith in
      rw (a, b) at e

  pub stops : (k v : ℕ) → 0 < k → k ≤ last → unsigned_leb (drop k bs) ≡ Some (v, last + 1 - k) → 2 ^ 64 ≤ v * 128 + (get_or bs (k - 1) 0 - 128) → leb64 bs ≡ None
  stops k v pos le h large =
      too_large bs (k - 1) (v * 128 + (get_or bs (k - 1) 0 - 128)) (last + 1 - (k - 1)) (omega (arith, inside)) (λ j lt. is_high j (omega arith)) (goes_on k v pos le h) large

  pub is_whole : (k v : ℕ) → k ≡ 0 → v < 2 ^ 64 → unsigned_leb (drop k bs) ≡ Some (v, last + 1 - k) → leb64 bs ≡ Some (v, last + 1)
  is_whole k v none small h =
      let e : ltb v (2 ^ 64) ≡ true = lt-ltb v (2 ^ 64) small in
      let all : last + 1 - k ≡ last + 1 = omega arith in
      let g : unsigned_leb bs ≡ Some (v, last + 1) = rw (all, none) at h in
      rw (g, e) refl
