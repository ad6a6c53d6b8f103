-- Texts that end with a zero, in bytes that grow.
use Rattle.std.proofs.Common.{◌≡◌, ℕ, ◌+◌, ◌<◌, ◌≤◌, Bool, true, false, cond, eqb, ltb, List, [], ◌∷◌, ◌++◌, length, take, drop, inl, inr, Some, None, refl, ap, ◌∙◌, arith}
use Rattle.std.specs.List.{AllByRecursion as AllOf, position_or_len}
use Rattle.std.proofs.lemmas.Bool.{cases_lt, lt-ltb, ltb-true}
use Rattle.std.proofs.lemmas.List.{length-append, take-append-le, take_all, drop-append-le, drop_all}
use Rattle.ix_base.specs.Reading.{before_zero, ◌>>=◌}

abbrev is_zero : ℕ → Bool
is_zero b = eqb b 0

abbrev pub HasNoZero : List ℕ → Type 0
HasNoZero text = AllOf (λ b. eqb b 0 ≡ false) text

-- ---- a text with its zero

zero_behind : (text rest : List ℕ) → HasNoZero text → position_or_len is_zero (text ++ 0 ∷ rest) ≡ length text
zero_behind [] rest none = refl
zero_behind (b ∷ text) rest none =
    let here : eqb b 0 ≡ false = none.0 in
    let more = zero_behind text rest none.1 in
    rw here (omega (arith, more))

pub text_is : (text rest : List ℕ) → HasNoZero text → before_zero (text ++ 0 ∷ rest) ≡ Some text
text_is text rest none =
    let first = zero_behind text rest none in
    let within : ltb (length text) (length (text ++ 0 ∷ rest)) ≡ true = lt-ltb _ _ (omega (arith, length-append text (0 ∷ rest))) in
    let own : take (length text) (text ++ 0 ∷ rest) ≡ text = take-append-le (length text) text (0 ∷ rest) (omega arith) ∙ take_all (length text) text (omega arith) in
    rw (first, within, own) refl

-- ---- more bytes behind

first_of_more : (xs ys : List ℕ) → position_or_len is_zero xs < length xs → position_or_len is_zero (xs ++ ys) ≡ position_or_len is_zero xs
first_of_more [] ys lt = absurd (omega arith)
first_of_more (x ∷ xs) ys lt = by (eqb x 0) refl (first_of_more xs ys)
  where
    by : (b : Bool) → eqb x 0 ≡ b → (position_or_len is_zero xs < length xs → position_or_len is_zero (xs ++ ys) ≡ position_or_len is_zero xs) → position_or_len is_zero (x ∷ (xs ++ ys)) ≡ position_or_len is_zero (x ∷ xs)
    by true e rest = rw e refl
    by false e rest =
        let l : 1 + position_or_len is_zero xs < length (x ∷ xs) = rw e at lt in
        let r = rest (omega (arith, l)) in
        rw (e, r) refl

-- a text that ends ends there in more bytes too
pub text_stays : (xs ys text : List ℕ) → before_zero xs ≡ Some text → before_zero (xs ++ ys) ≡ Some text
text_stays xs ys text is = by (ltb (position_or_len is_zero xs) (length xs)) refl is
  where
    by : (b : Bool) → ltb (position_or_len is_zero xs) (length xs) ≡ b → (cond b (Some (position_or_len is_zero xs)) None >>= λ k. Some (take k xs)) ≡ Some text → before_zero (xs ++ ys) ≡ Some text
    by true e h =
        let lt = ltb-true (position_or_len is_zero xs) (length xs) e in
        let first = first_of_more xs ys lt in
        let within : ltb (position_or_len is_zero xs) (length (xs ++ ys)) ≡ true = lt-ltb _ _ (omega (arith, lt, length-append xs ys)) in
        let own : take (position_or_len is_zero xs) (xs ++ ys) ≡ take (position_or_len is_zero xs) xs = take-append-le (position_or_len is_zero xs) xs ys (omega (arith, lt)) in
        rw (first, within, own) h
    by false e h = absurd cc

-- what ends has a byte
text_within : (place : ℕ) (xs text : List ℕ) → before_zero (drop place xs) ≡ Some text → place ≤ length xs
text_within place xs text is = elim (cases_lt (length xs) place) [
  | inl low ↦ absurd (let none : drop place xs ≡ [] = drop_all place xs (omega (arith, low)) in let e = rw none at is in cc)
  | inr high ↦ high
]

pub text_at_stays : (place : ℕ) (xs ys text : List ℕ) → before_zero (drop place xs) ≡ Some text → before_zero (drop place (xs ++ ys)) ≡ Some text
text_at_stays place xs ys text is = ap before_zero (drop-append-le place xs ys (text_within place xs text is)) ∙ text_stays (drop place xs) ys text is
