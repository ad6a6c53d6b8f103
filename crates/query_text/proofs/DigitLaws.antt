-- Digits of a number, written from the last to the first.
use Rattle.std.proofs.Common.{◌≡◌, ℕ, zero, suc, ◌+◌, ◌*◌, ◌-◌, ◌/◌, ◌%◌, ◌^◌, ◌<◌, ◌≤◌, Bool, true, false, cond, List, [], ◌∷◌, length, set, drop, sym, ap, ◌∙◌, arith, eqb, eq-eqb, ne_eqb, drop-cons, get_or-set_same, drop-set-lt, length-set, pow-suc, one-mul, div-lt_iff_lt-mul, refl}
use Rattle.std.specs.Fmt.{digits, digits_onto, digit_glyph}
use Rattle.std.proofs.Math.Nat.{pow-zero}

-- the last k digits of a number at most, and others behind them
unfoldable pub onto : ℕ → ℕ → ℕ → List ℕ → List ℕ
onto k base n after = digits_onto k base false n after

pub onto_none : (base n : ℕ) → onto 64 base n [] ≡ digits base false n
unfolding onto digits
onto_none base n = refl

module _ (base n : ℕ) (after : List ℕ) where
  by_test : (k : ℕ) (t : Bool) → eqb (n / base) 0 ≡ t → onto (suc k) base n after ≡ cond t (digit_glyph false (n % base) ∷ after) (onto k base (n / base) (digit_glyph false (n % base) ∷ after))
  unfolding onto
  by_test k t e = ap (λ (b : Bool). cond b (digit_glyph false (n % base) ∷ after) (digits_onto k base false (n / base) (digit_glyph false (n % base) ∷ after))) e

  -- the first digit
  pub first : (k : ℕ) → n / base ≡ 0 → onto (suc k) base n after ≡ digit_glyph false (n % base) ∷ after
  first k e = by_test k true (eq-eqb (n / base) 0 e)

  -- a digit with others before it
  pub next : (k : ℕ) → (n / base ≡ 0 → ⊥) → onto (suc k) base n after ≡ onto k base (n / base) (digit_glyph false (n % base) ∷ after)
  next k e = by_test k false (ne_eqb (n / base) 0 e)

-- a digit that is written before others
pub written : (bytes : List ℕ) (i d g : ℕ) → i < length bytes → d ≡ g → drop i (set bytes i d) ≡ g ∷ drop (i + 1) bytes
written bytes i d g lt e =
    let back : drop (suc i) (set bytes i d) ≡ drop (i + 1) bytes =
    drop-set-lt (suc i) bytes i d (omega arith) ∙ ap (λ (k : ℕ). drop k bytes) {x = suc i} {y = i + 1} (omega arith) in
    drop-cons (set bytes i d) i 0 (omega (arith, length-set bytes i d))
    ∙ (λ t. (get_or-set_same bytes i d 0 lt ∙ e) t ∷ back t)

module _ (base n : ℕ) (bytes : List ℕ) (start rest d : ℕ) (lt : start < length bytes) (same : onto (start + 45) base rest (drop (start + 1) bytes) ≡ digits base false n) where
  -- one more digit, and others before it
  pub step : 0 < start → (rest / base ≡ 0 → ⊥) → d ≡ digit_glyph false (rest % base) → onto (start - 1 + 45) base (rest / base) (drop (start - 1 + 1) (set bytes start d)) ≡ digits base false n
  step some more is =
      ap (λ (k : ℕ). onto (start - 1 + 45) base (rest / base) (drop k (set bytes start d))) {x = start - 1 + 1} {y = start} (omega arith)
      ∙ ap (λ (l : List ℕ). onto (start - 1 + 45) base (rest / base) l) (written bytes start d (digit_glyph false (rest % base)) lt is)
      ∙ sym (next base rest (drop (start + 1) bytes) (start - 1 + 45) more)
      ∙ ap (λ (k : ℕ). onto k base rest (drop (start + 1) bytes)) {x = suc (start - 1 + 45)} {y = start + 45} (omega arith)
      ∙ same

  -- the first digit completes the number
  pub complete : rest / base ≡ 0 → rest % base ≡ rest → d ≡ digit_glyph false rest → drop start (set bytes start d) ≡ digits base false n
  complete low whole is =
      written bytes start d (digit_glyph false (rest % base)) lt (is ∙ ap (λ (m : ℕ). digit_glyph false m) (sym whole))
      ∙ sym (first base rest (drop (start + 1) bytes) (start + 44) low)
      ∙ ap (λ (k : ℕ). onto k base rest (drop (start + 1) bytes)) {x = suc (start + 44)} {y = start + 45} (omega arith)
      ∙ same

-- a number of two digits or more has room before its last digit
pub has_more : (base rest start : ℕ) → base ≤ rest → rest < base ^ (start + 1) → 0 < start
has_more base rest zero large small =
    let e : base ^ (0 + 1) ≡ base = pow-suc base 0 ∙ ap (λ (k : ℕ). k * base) (pow-zero base) ∙ one-mul base in
    absurd (omega (arith, e, large, small))
has_more base rest (suc start) large small = omega arith

-- the digits before the last one
pub front_small : (base rest start : ℕ) → 0 < base → 0 < start → rest < base ^ (start + 1) → rest / base < base ^ (start - 1 + 1)
front_small base rest start pos some small =
    let e : start - 1 + 1 ≡ start = omega arith in
    let p : base ^ (start + 1) ≡ base ^ start * base =
    ap (λ (k : ℕ). base ^ k) {x = start + 1} {y = suc start} (omega arith) ∙ pow-suc base start in
    let q : rest < base ^ start * base = omega (arith, p) in
    let r : rest / base < base ^ start = (div-lt_iff_lt-mul pos).1 q in
    rw e r
