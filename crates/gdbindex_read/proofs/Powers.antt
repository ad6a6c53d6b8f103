-- Whether a number is a power of two, by its binary digits.
use Rattle.std.proofs.Common.{◌≡◌, ◌⊎◌, inl, inr, ℕ, zero, suc, ◌+◌, ◌/◌, ◌%◌, ◌^◌, ◌<◌, Bool, true, false, ◌||◌, eqb, List, [], ◌∷◌, get_or, refl, arith, ap, sym, ◌∙◌}
use Rattle.std.specs.List.{list_any}
use Rattle.std.specs.Int.RustNames.{count_ones}
use Rattle.std.proofs.lemmas.Bool.{eqb-true, eqb-false, eq-eqb}
use Rattle.std.proofs.lemmas.List.FromFn.{length-range_with_len, get_or-range_with_len}
use Rattle.std.proofs.lemmas.List.Folds.{list_any_at}
use Rattle.std.proofs.lemmas.Nat.{zero_from_ones}
use lib.Count.{ones_step}
use Rattle.index_model.specs.Layout.{below}
use Rattle.index_model.specs.GdbIndexRead.{is_table_size}

record Power (d n : ℕ) : Type 0 where
  k : ℕ
  within : k < d
  is : n ≡ 2 ^ k

parity : (n : ℕ) → (n % 2 ≡ 0) ⊎ (n % 2 ≡ 1)
parity n = grind arith

no_ones : count_ones 0 ≡ 0
unfolding count_ones
no_ones = ones_step 0

doubled : (d n : ℕ) → n % 2 ≡ 0 → Power d (n / 2) → Power (suc d) n
doubled d n even p = record { k = suc p.k; within = omega (arith, p.within); is = omega (arith, p.is) }

-- a number with one digit 1 is a power
power_of : (d n : ℕ) → n < 2 ^ d → count_ones n ≡ 1 → Power d n
power_of zero n lt e =
    let none : n ≡ 0 = omega (arith, lt) in
    let same : count_ones n ≡ 0 = ap count_ones none ∙ no_ones in
    absurd (omega (arith, e, same))
power_of (suc d) n lt e =
    let step = ones_step n in
    elim (parity n) as (λ _. Power (suc d) n) [
      | inl even ↦ doubled d n even (power_of d (n / 2) (omega (arith, lt)) (omega (arith, step, even, e)))
      | inr odd ↦
          let rest : n / 2 ≡ 0 = zero_from_ones (n / 2) (omega (arith, step, odd, e)) in
          record { k = 0; within = omega arith; is = omega (arith, rest, odd) }
    ]

-- a power has one digit 1
ones_of_power : (k : ℕ) → count_ones (2 ^ k) ≡ 1
ones_of_power zero = ones_step 1 ∙ ap (λ (x : ℕ). 1 + x) no_ones
ones_of_power (suc k) =
    let half : 2 ^ suc k / 2 ≡ 2 ^ k = omega arith in
    let even : 2 ^ suc k % 2 ≡ 0 = omega arith in
    let step = ones_step (2 ^ suc k) in
    omega (arith, step, even, ap count_ones half, ones_of_power k)

some_power : (n : ℕ) (ks : List ℕ) → list_any (λ k. eqb n (2 ^ k)) ks ≡ true → (k : ℕ) × (n ≡ 2 ^ k)
some_power n [] e = absurd cc
some_power n (k ∷ ks) e = elim (eqb n (2 ^ k)) as (λ b. eqb n (2 ^ k) ≡ b → (b || list_any (λ k. eqb n (2 ^ k)) ks) ≡ true → (k : ℕ) × (n ≡ 2 ^ k)) [
  | true ↦ λ is _. (k, eqb-true n (2 ^ k) is)
  | false ↦ λ _ more. some_power n ks more
] refl e

among_powers : (n : ℕ) → n < 2 ^ 32 → list_any (λ k. eqb n (2 ^ k)) (below 32) ≡ eqb (count_ones n) 1
among_powers n lt = elim (eqb (count_ones n) 1) as (λ b. eqb (count_ones n) 1 ≡ b → list_any (λ k. eqb n (2 ^ k)) (below 32) ≡ b) [
  | true ↦ λ one.
      let p = power_of 32 n lt (eqb-true (count_ones n) 1 one) in
      let at : get_or (below 32) p.k 0 ≡ p.k = get_or-range_with_len 0 32 p.k 0 p.within ∙ omega arith in
      list_any_at (λ k. eqb n (2 ^ k)) (below 32) p.k 0 (omega (arith, length-range_with_len 0 32, p.within)) (eq-eqb n (2 ^ get_or (below 32) p.k 0) (p.is ∙ ap (λ (k : ℕ). 2 ^ k) (sym at)))
  | false ↦ λ more. none (list_any (λ k. eqb n (2 ^ k)) (below 32)) refl more
] refl
  where
    none : (b : Bool) → list_any (λ k. eqb n (2 ^ k)) (below 32) ≡ b → eqb (count_ones n) 1 ≡ false → b ≡ false
    none false is more = refl
    none true is more =
        let p = some_power n (below 32) is in
        let one : count_ones n ≡ 1 = ap count_ones p.1 ∙ ones_of_power p.0 in
        absurd (eqb-false (count_ones n) 1 more one)

-- none, or a power of two
pub table_size_is : (n : ℕ) → n < 2 ^ 32 → is_table_size n ≡ (eqb n 0 || eqb (count_ones n) 1)
unfolding is_table_size
table_size_is n lt = ap (λ (b : Bool). eqb n 0 || b) (among_powers n lt)
