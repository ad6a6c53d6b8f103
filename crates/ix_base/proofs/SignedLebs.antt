-- Signed LEB numbers, read from their last byte to the first.
use Rattle.std.proofs.Common.{◌≡◌, ℕ, zero, suc, ◌+◌, ◌-◌, ◌^◌, ◌<◌, ◌≤◌, ◌⊎◌, true, false, cond, ltb, List, [], ◌∷◌, length, get_or, drop, Some, None, refl, inl, inr, arith, add-one, drop-cons}
use Rattle.std.specs.Prelude.{ℤ, pos, negsuc, ◌+ℤ◌, ◌-ℤ◌, ◌*ℤ◌, ◌≤ℤ◌, FitsSigned}
use Rattle.std.specs.Int.{w64}
use Rattle.std.specs.List.{position, position_or_len}
use Rattle.std.proofs.lemmas.Bool.{ltb-true, lt-ltb, le-ltb, cases_lt}
use Rattle.std.proofs.lemmas.Int.{ints}
use Rattle.std.proofs.lemmas.List.Quantifiers.{position-Some}
use Rattle.ix_base.specs.Reading.{signed_leb, signed_leb64, is_in_64}
use Rattle.ix_base.proofs.Lebs.{is_last, is_high, none_is}

IsOut : ℤ → Type 0
IsOut z = (z ≤ℤ negsuc (2 ^ 63)) ⊎ (pos (2 ^ 63) ≤ℤ z)

out_is : (z : ℤ) → IsOut z → is_in_64 z ≡ false
unfolding IsOut
out_is (pos n) (inl le) = absurd (omega (arith, ints))
out_is (pos n) (inr le) = le-ltb n (2 ^ 63) (omega (arith, ints))
out_is (negsuc n) (inl le) = le-ltb n (2 ^ 63) (omega (arith, ints))
out_is (negsuc n) (inr le) = absurd (omega (arith, ints))

out_grows : (v : ℤ) (low : ℕ) → low < 128 → IsOut v → IsOut (pos low +ℤ (pos 128 *ℤ v))
unfolding IsOut
out_grows v low lt (inl le) = inl (omega (arith, ints))
out_grows v low lt (inr le) = inr (omega (arith, ints))

not_fits : (z : ℤ) → (FitsSigned w64 z → ⊥) → IsOut z
unfolding IsOut
not_fits (pos n) h =
    elim (cases_lt n (2 ^ 63)) [
      | inl lt ↦ absurd (h (omega (arith, ints)))
      | inr le ↦ inr (omega (arith, ints))
    ]
not_fits (negsuc n) h =
    elim (cases_lt n (2 ^ 63)) [
      | inl lt ↦ absurd (h (omega (arith, ints)))
      | inr le ↦ inl (omega (arith, ints))
    ]

out_before : (v : ℤ) (low : ℕ) → low < 128 → IsOut (v *ℤ pos 128) → IsOut (pos low +ℤ (pos 128 *ℤ v))
unfolding IsOut
out_before v low lt (inl le) = inl (omega (arith, ints))
out_before v low lt (inr le) = inr (omega (arith, ints))

fits_is : (z : ℤ) → FitsSigned w64 z → is_in_64 z ≡ true
fits_is (pos n) h = lt-ltb n (2 ^ 63) (omega (arith, ints))
fits_is (negsuc n) h = lt-ltb n (2 ^ 63) (omega (arith, ints))

endless : (bs : List ℕ) → length bs ≤ position_or_len is_last bs → signed_leb bs ≡ None
unfolding signed_leb
endless [] h = refl
endless (b ∷ bs) h =
    elim (cases_lt b 128) [
      | inl lt ↦ let e : ltb b 128 ≡ true = lt-ltb b 128 lt in absurd (omega (arith, rw e at h))
      | inr le ↦ let e : ltb b 128 ≡ false = le-ltb b 128 le in rw (e, endless bs (omega (arith, rw e at h))) refl
    ]

pub no_end : (bs : List ℕ) → position is_last bs ≡ None → signed_leb64 bs ≡ None
no_end bs h = rw (endless bs (none_is (position_or_len is_last bs) (length bs) h)) refl

one_more : (bs : List ℕ) (k : ℕ) (v : ℤ) (n : ℕ) → k < length bs → 128 ≤ get_or bs k 0 → signed_leb (drop (k + 1) bs) ≡ Some (v, n) → signed_leb (drop k bs) ≡ Some (pos (get_or bs k 0 - 128) +ℤ (pos 128 *ℤ v), n + 1)
unfolding signed_leb
one_more bs k v n lt high h =
    let e : ltb (get_or bs k 0) 128 ≡ false = le-ltb (get_or bs k 0) 128 high in
    let g = rw add-one at h in
    rw (drop-cons bs k 0 lt, e, g) refl

at_last : (bs : List ℕ) (k : ℕ) → k < length bs → get_or bs k 0 < 128 → signed_leb (drop k bs) ≡ Some (cond (ltb (get_or bs k 0) 64) (pos (get_or bs k 0)) (pos (get_or bs k 0) -ℤ pos 128), 1)
unfolding signed_leb
at_last bs k lt low =
    let e : ltb (get_or bs k 0) 128 ≡ true = lt-ltb (get_or bs k 0) 128 low in
    rw (drop-cons bs k 0 lt, e) refl

too_large : (bs : List ℕ) (k : ℕ) (v : ℤ) (n : ℕ) → k ≤ length bs → ((j : ℕ) → j < k → 128 ≤ get_or bs j 0) → ((j : ℕ) → get_or bs j 0 < 256) → signed_leb (drop k bs) ≡ Some (v, n) → IsOut v → signed_leb64 bs ≡ None
too_large bs zero v n le high bytes h large = rw (h, out_is v large) refl
too_large bs (suc k) v n le high bytes h large =
    too_large bs k (pos (get_or bs k 0 - 128) +ℤ (pos 128 *ℤ v)) (n + 1) (omega arith) (λ j lt. high j (omega arith)) bytes (one_more bs k v n (omega arith) (high k (omega arith)) (rw (add-one k) h)) (out_grows v (get_or bs k 0 - 128) (omega (arith, bytes k)) large)

-- ---- the loop from the last byte down to the first

module _ (bs : List ℕ) (last : ℕ) (ends : position is_last bs ≡ Some last) where
  inside : last < length bs
  inside = (position-Some is_last bs last 0 ends).0

  pub begins : signed_leb (drop last bs) ≡ Some (cond (ltb (get_or bs last 0) 64) (pos (get_or bs last 0)) (pos (get_or bs last 0) -ℤ pos 128), last + 1 - last)
  begins =
      let one : last + 1 - last ≡ 1 = omega arith in
      rw one (at_last bs last inside (ltb-true (get_or bs last 0) 128 (position-Some is_last bs last 0 ends).1))

  pub goes_on : (k : ℕ) (v : ℤ) → 0 < k → k ≤ last → signed_leb (drop k bs) ≡ Some (v, last + 1 - k) → signed_leb (drop (k - 1) bs) ≡ Some (pos (get_or bs (k - 1) 0 - 128) +ℤ (pos 128 *ℤ v), last + 1 - (k - 1))
  goes_on k v some le h =
      let i : k - 1 + 1 ≡ k = omega arith in
      let g : signed_leb (drop (k - 1 + 1) bs) ≡ Some (v, last + 1 - k) = rw i h in
      let e = one_more bs (k - 1) v (last + 1 - k) (omega (arith, inside)) (is_high bs last ends (k - 1) (omega arith)) g in
      let b : last + 1 - k + 1 ≡ last + 1 - (k - 1) = omega arith in
      rw b at e

  pub stops : ((j : ℕ) → get_or bs j 0 < 256) → (k : ℕ) (v : ℤ) → 0 < k → k ≤ last → signed_leb (drop k bs) ≡ Some (v, last + 1 - k) → (FitsSigned w64 (v *ℤ pos 128) → ⊥) → signed_leb64 bs ≡ None
  stops bytes k v some le h large =
      too_large bs (k - 1) (pos (get_or bs (k - 1) 0 - 128) +ℤ (pos 128 *ℤ v)) (last + 1 - (k - 1)) (omega (arith, inside)) (λ j lt. is_high bs last ends j (omega arith)) bytes (goes_on k v some le h) (out_before v (get_or bs (k - 1) 0 - 128) (omega (arith, bytes (k - 1))) (not_fits (v *ℤ pos 128) large))
