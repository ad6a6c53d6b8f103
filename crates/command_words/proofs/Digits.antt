-- Decimal digits, read from the highest to the lowest.
use Rattle.std.proofs.Common.{◌≡◌, ℕ, ◌+◌, ◌*◌, ◌-◌, ◌^◌, ◌<◌, ◌≤◌, Bool, true, false, cond, ltb, eqb, ◌&&◌, List, [], ◌∷◌, length, get_or, drop, refl, arith, Some, None, add-one, drop-cons}
use Rattle.std.specs.Prelude.{fold}
use Rattle.std.specs.List.{list_all}
use Rattle.std.specs.Char.{is_ascii_digit}
use Rattle.std.proofs.lemmas.Bool.{le-ltb, lt-ltb, eqb-false}
use Rattle.std.proofs.lemmas.List.{drop_all}
use Rattle.command_words.specs.Numbers.{decimal_value, digits_value, is_digits}

abbrev onwards : ℕ → List ℕ → ℕ
onwards v ds = fold (λ n b. n * 10 + (b - 48)) v ds

grows : (v : ℕ) (ds : List ℕ) → v ≤ onwards v ds
grows v [] = omega arith
grows v (d ∷ ds) = omega (arith, grows (v * 10 + (d - 48)) ds)

none_and : (a b : Bool) (n : ℕ) → b ≡ false → cond (a && b) (Some n) None ≡ None
none_and true b n e = rw e refl
none_and false b n e = refl

module _ (text : List ℕ) (i v : ℕ) (same : onwards v (drop i text) ≡ decimal_value text) where
  next : i < length text → onwards (v * 10 + (get_or text i 0 - 48)) (drop (i + 1) text) ≡ decimal_value text
  next lt = let g = rw (drop-cons text i 0 lt) at same in rw add-one g

  -- where a part is too large, the whole is
  pub too_large : i < length text → 2 ^ 32 ≤ v * 10 + (get_or text i 0 - 48) → digits_value text ≡ None
  too_large lt large =
      let value = v * 10 + (get_or text i 0 - 48) in
      none_and (is_digits text) (ltb (decimal_value text) (2 ^ 32)) (decimal_value text) (le-ltb (decimal_value text) (2 ^ 32) (omega (arith, next lt, grows value (drop (i + 1) text))))

  -- with no digit left, the value is that of all
  pub whole : length text ≤ i → 0 < length text → v < 2 ^ 32 → list_all is_ascii_digit (drop i text) ≡ list_all is_ascii_digit text → digits_value text ≡ Some v
  whole none some small digits =
      let e : drop i text ≡ [] = drop_all i text none in
      let value : v ≡ decimal_value text = rw e at same in
      let all : true ≡ list_all is_ascii_digit text = rw e at digits in
      let a : ltb 0 (length text) ≡ true = lt-ltb 0 (length text) some in
      let b : ltb v (2 ^ 32) ≡ true = lt-ltb v (2 ^ 32) small in
      rw (a, ← all, ← value, b) refl

-- what isn't empty has a first digit
pub positive : (text : List ℕ) → eqb (length text) 0 ≡ false → 0 < length text
positive text e = let ne = eqb-false (length text) 0 e in omega arith
