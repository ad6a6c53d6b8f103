-- Fronts that differ are in the order of their texts.
use Rattle.std.proofs.Common.{◌≡◌, ℕ, zero, suc, ◌+◌, ◌-◌, ◌*◌, ◌^◌, ◌<◌, ◌≤◌, List, [], ◌∷◌, get_or, drop, refl, sym, ap, ◌∙◌, inl, inr, arith, add-one, lit<}
use Rattle.std.proofs.Math.Nat.{mul-le-mul_right, pow-le-pow_right, one-le-pow}
use native.Mathlib.Numerals.{unary_clauses}
use Rattle.std.proofs.lemmas.Bool.{cases_lt, lt-ltb}
use Rattle.std.proofs.lemmas.Bool.Decides.{nat_tests}
use Rattle.std.specs.Ordering.{nat_cmp, ordering_then, ordering_reverse}
use Rattle.std.proofs.lemmas.Cmp.{nat_list_cmp_total}
use Rattle.std.specs.Cmp.Lexicographic.{slice_cmp}
use Rattle.std.specs.declared.cmp.Ordering.{Ordering}
use Rattle.std.specs.declared.cmp.Ordering.TheVariants.{Less, Equal, Greater}
use Rattle.query_engine.specs.Front.{front, IsFrontOf}

-- the elements are bytes
abbrev pub AreBytes : List ℕ → Type 0
AreBytes xs = (k : ℕ) → get_or xs k 0 < 256

more : (p : ℕ) → 256 ^ suc p ≡ 256 ^ p * 256
more p = simp unary_clauses

-- a front of n bytes is below 256 ^ n
front_below : (n : ℕ) (xs : List ℕ) → AreBytes xs → front n xs < 256 ^ n
unfolding front
front_below zero xs b = omega arith
front_below (suc n) [] b = let some : 0 < 256 ^ n = one-le-pow n 256 (lit< tt) in omega (arith, more n)
front_below (suc n) (x ∷ xs) b =
    let head : x ≤ 255 = let h = b 0 in omega arith in
    let tail = front_below n xs (λ k. b (suc k)) in
    let product : x * 256 ^ n ≤ 255 * 256 ^ n = mul-le-mul_right (256 ^ n) head in
    omega (arith, more n)

less_first : (x y : ℕ) (o : Ordering) → x < y → ordering_then (nat_cmp x y) o ≡ Less
less_first x y o h = rw (lt-ltb x y h) refl

nat_less : (x y : ℕ) → x < y → nat_cmp x y ≡ Less
nat_less x y h = rw (lt-ltb x y h) refl

nat_equal : (x y : ℕ) → x ≡ y → nat_cmp x y ≡ Equal
nat_equal x y h = grind (arith, nat_tests)

nat_greater : (x y : ℕ) → y < x → nat_cmp x y ≡ Greater
nat_greater x y h = grind (arith, nat_tests)

same_first : (x y : ℕ) (o : Ordering) → x ≡ y → ordering_then (nat_cmp x y) o ≡ o
same_first x y o h = grind (arith, nat_tests)

-- the lower front is that of the text that comes first
pub front_less : (n : ℕ) (xs ys : List ℕ) → AreBytes xs → AreBytes ys → front n xs < front n ys → slice_cmp nat_cmp xs ys ≡ Less
unfolding front
front_less zero xs ys a b h = absurd (omega arith)
front_less (suc n) [] [] a b h = absurd (omega arith)
front_less (suc n) (x ∷ xs) [] a b h = absurd (omega arith)
front_less (suc n) [] (y ∷ ys) a b h = refl
front_less (suc n) (x ∷ xs) (y ∷ ys) a b h = elim (cases_lt x y) [
  | inl lt ↦ less_first x y (slice_cmp nat_cmp xs ys) lt
  | inr le ↦ elim (cases_lt y x) [
    | inl gt ↦
        let product : suc y * 256 ^ n ≤ x * 256 ^ n = mul-le-mul_right (256 ^ n) gt in
        absurd (omega (arith, front_below n ys (λ k. b (suc k))))
    | inr ge ↦
        let same : x ≡ y = omega arith in
        let rest : front n xs < front n ys = let g = rw same at h in omega arith in
        same_first x y (slice_cmp nat_cmp xs ys) same ∙ front_less n xs ys (λ k. a (suc k)) (λ k. b (suc k)) rest
  ]
]

-- ---- at an answer of a comparison of fronts

module _ (xs ys : List ℕ) (m n : ℕ) (a : IsFrontOf m xs) (b : IsFrontOf n ys) where
  -- where the fronts differ their order is that of the texts
  pub order_of_fronts : (o : Ordering) → o ≡ nat_cmp m n → (o ≡ Equal → ⊥) → o ≡ slice_cmp nat_cmp xs ys
  order_of_fronts o is other = elim (cases_lt m n) [
    | inl lt ↦
        let less : slice_cmp nat_cmp xs ys ≡ Less = front_less 8 xs ys a.small b.small (rw (← a.is, ← b.is) lt) in
        is ∙ nat_less m n lt ∙ sym less
    | inr le ↦ elim (cases_lt n m) [
      | inl gt ↦
          let less : slice_cmp nat_cmp ys xs ≡ Less = front_less 8 ys xs b.small a.small (rw (← b.is, ← a.is) gt) in
          is ∙ nat_greater m n gt ∙ sym (nat_list_cmp_total.antisymm xs ys ∙ ap ordering_reverse less)
      | inr ge ↦ absurd (other (is ∙ nat_equal m n (omega arith)))
    ]
  ]

-- ---- the loop

front_nil : (k : ℕ) → front k [] ≡ 0
unfolding front
front_nil zero = refl
front_nil (suc k) = refl

-- one byte more
front_drop : (k i : ℕ) (xs : List ℕ) → front (suc k) (drop i xs) ≡ get_or xs i 0 * 256 ^ k + front k (drop (suc i) xs)
unfolding front
front_drop k zero [] = let e = front_nil k in omega arith
front_drop k zero (x ∷ xs) = refl
front_drop k (suc i) [] = let e = front_nil k in omega arith
front_drop k (suc i) (x ∷ xs) = front_drop k i xs

front_step : (k i : ℕ) (xs : List ℕ) → front (suc k) (drop i xs) ≡ get_or xs i 0 * 256 ^ k + front k (drop (i + 1) xs)
front_step k i xs = rw add-one (front_drop k i xs)

pub front_more : (n i b : ℕ) (xs : List ℕ) → i < 8 → b ≡ get_or xs i 0 → n * 256 ^ (8 - i) + front (8 - i) (drop i xs) ≡ (n * 256 + b) * 256 ^ (8 - (i + 1)) + front (8 - (i + 1)) (drop (i + 1) xs)
front_more n i b xs lt is =
    let k : ℕ = 8 - (i + 1) in
    let width : 8 - i ≡ suc k = omega arith in
    let power : 256 ^ (8 - i) ≡ 256 ^ k * 256 = ap (λ w. 256 ^ w) width ∙ more k in
    let rest : front (8 - i) (drop i xs) ≡ b * 256 ^ k + front k (drop (i + 1) xs) = rw (width, is) (front_step k i xs) in
    rw (power, rest) (omega arith)

pub front_fits : (n i : ℕ) → i < 8 → n < 256 ^ i → n * 256 + 255 < 2 ^ 64
front_fits n i lt h =
    let seven : i ≤ 7 = omega arith in
    let low : 256 ^ i ≤ 256 ^ 7 = pow-le-pow_right {n = 256} (lit< tt) {i = i} {j = 7} seven in
    omega arith

pub front_grows : (n i b : ℕ) → n < 256 ^ i → b < 256 → n * 256 + b < 256 ^ (i + 1)
front_grows n i b h small = rw add-one (omega (arith, more i))

pub front_whole : (n : ℕ) (xs : List ℕ) (i : ℕ) → 8 ≤ i → i ≤ 8 → n * 256 ^ (8 - i) + front (8 - i) (drop i xs) ≡ front 8 xs → n ≡ front 8 xs
unfolding front
front_whole n xs i a b h =
    let z : 8 - i ≡ 0 = omega arith in
    let g = rw z at h in
    omega arith
