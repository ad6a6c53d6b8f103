-- Hexadecimal digits of a query, read from the highest to the lowest.
use Rattle.std.proofs.Common.{◌≡◌, ℕ, suc, ◌+◌, ◌*◌, ◌^◌, ◌<◌, ◌≤◌, Bool, true, false, cond, ◌&&◌, leb, List, [], length, get_or, drop, refl, sym, ap, ◌∙◌, arith, Some, None, le-leb}
use Rattle.std.specs.Prelude.{fold}
use Rattle.std.specs.List.{list_all}
use Rattle.std.proofs.Math.Nat.{pow-le-pow_right, pow-succ'}
use Rattle.std.proofs.lemmas.Bool.{lt-leb}
use Rattle.std.proofs.lemmas.List.{drop_all, at_drop_more}
use Rattle.index_model.specs.Queries.{hex_number, is_hex_digit, hex_digit}

abbrev pub onwards : ℕ → List ℕ → ℕ
onwards v ds = fold (λ n b. 16 * n + hex_digit b) v ds

-- sixteen digits stand for numbers of 64 bits
pub more_fits : (v i : ℕ) → v < 16 ^ i → i < 16 → 16 * v + 15 < 2 ^ 64
more_fits v i small few =
    let p : 16 ^ i ≤ 16 ^ 15 = pow-le-pow_right {n = 16} (omega arith) {i = i} {j = 15} (omega arith) in omega (arith, p)

pub more_small : (v i d : ℕ) → v < 16 ^ i → d < 16 → 16 * v + d < 16 ^ (i + 1)
more_small v i d small digit =
    let e : 16 ^ (i + 1) ≡ 16 * 16 ^ i = ap (λ (k : ℕ). 16 ^ k) {x = i + 1} {y = suc i} (omega arith) ∙ pow-succ' 16 i in omega (arith, e)

none_and : (a b : Bool) (n : ℕ) → cond (a && b && false) (Some n) None ≡ None
none_and true true n = refl
none_and true false n = refl
none_and false true n = refl
none_and false false n = refl

none_first : (b c : Bool) (n : ℕ) → cond (false && b && c) (Some n) None ≡ None
none_first true true n = refl
none_first true false n = refl
none_first false true n = refl
none_first false false n = refl

none_second : (a c : Bool) (n : ℕ) → cond (a && false && c) (Some n) None ≡ None
none_second true true n = refl
none_second true false n = refl
none_second false true n = refl
none_second false false n = refl

pub empty_is_none : (text : List ℕ) → length text ≡ 0 → hex_number text ≡ None
unfolding hex_number
empty_is_none text e =
    let a : leb 1 (length text) ≡ false = lt-leb 1 (length text) (omega arith) in
    rw a (none_first (leb (length text) 16) (list_all is_hex_digit text) (onwards 0 text))

pub long_is_none : (text : List ℕ) → 16 < length text → hex_number text ≡ None
unfolding hex_number
long_is_none text long =
    let b : leb (length text) 16 ≡ false = lt-leb (length text) 16 long in
    rw b (none_second (leb 1 (length text)) (list_all is_hex_digit text) (onwards 0 text))

module _ (text : List ℕ) (i v : ℕ) where
  pub next_value : i < length text → onwards v (drop i text) ≡ onwards 0 text → onwards (16 * v + hex_digit (get_or text i 0)) (drop (i + 1) text) ≡ onwards 0 text
  next_value lt same = sym (at_drop_more (onwards v) text i 0 lt) ∙ same

  digits_from : i < length text → list_all is_hex_digit (drop i text) ≡ (is_hex_digit (get_or text i 0) && list_all is_hex_digit (drop (i + 1) text))
  digits_from lt = at_drop_more (list_all is_hex_digit) text i 0 lt

  pub next_digit : i < length text → is_hex_digit (get_or text i 0) ≡ true → list_all is_hex_digit (drop i text) ≡ list_all is_hex_digit text → list_all is_hex_digit (drop (i + 1) text) ≡ list_all is_hex_digit text
  next_digit lt is same =
      sym (digits_from lt ∙ ap (λ (b : Bool). b && list_all is_hex_digit (drop (i + 1) text)) is) ∙ same

  -- another byte
  pub no_digit : i < length text → is_hex_digit (get_or text i 0) ≡ false → list_all is_hex_digit (drop i text) ≡ list_all is_hex_digit text → hex_number text ≡ None
  unfolding hex_number
  no_digit lt isnt same =
      let e : list_all is_hex_digit text ≡ false =
      sym same ∙ digits_from lt ∙ ap (λ (b : Bool). b && list_all is_hex_digit (drop (i + 1) text)) isnt in
      rw e (none_and (leb 1 (length text)) (leb (length text) 16) (onwards 0 text))

  -- with no digit left, the value is that of all
  pub whole : length text ≤ i → 0 < length text → length text ≤ 16 → onwards v (drop i text) ≡ onwards 0 text → list_all is_hex_digit (drop i text) ≡ list_all is_hex_digit text → hex_number text ≡ Some v
  unfolding hex_number
  whole none some few same digits =
      let e : drop i text ≡ [] = drop_all i text none in
      let value : v ≡ onwards 0 text = rw e at same in
      let all : true ≡ list_all is_hex_digit text = rw e at digits in
      let a : leb 1 (length text) ≡ true = le-leb 1 (length text) (omega arith) in
      let b : leb (length text) 16 ≡ true = le-leb (length text) 16 few in
      rw (a, b, ← all, ← value) refl

-- what the test of a byte says
pub is_digit : (t : Bool) (h d : ℕ) → Some d ≡ cond t (Some h) None → t ≡ true
is_digit true h d e = refl
is_digit false h d e = absurd (cc)

pub isnt_digit : (t : Bool) (h : ℕ) → None ≡ cond t (Some h) None → t ≡ false
isnt_digit true h e = absurd (cc)
isnt_digit false h e = refl
