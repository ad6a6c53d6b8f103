-- Digits of a base, read from the highest to the lowest.
use Rattle.std.proofs.Common.{◌≡◌, ℕ, ◌+◌, ◌*◌, ◌^◌, ◌<◌, ◌≤◌, Bool, true, false, cond, ltb, ◌&&◌, List, [], ◌∷◌, length, get_or, drop, refl, arith, Some, None, add-one, drop-cons}
use Rattle.std.specs.Prelude.{fold}
use Rattle.std.specs.Char.{digit_value}
use Rattle.std.specs.List.{list_all}
use Rattle.std.proofs.lemmas.Bool.{le-ltb, lt-ltb}
use native.Mathlib.Nat.{le-mul_of_pos_right}
use Rattle.cxx_spelling.specs.Numerals.{value_of, number_of}

abbrev pub onwards : ℕ → ℕ → List ℕ → ℕ
onwards radix v ds = fold (λ n b. n * radix + digit_value b) v ds

grows : (radix v : ℕ) (ds : List ℕ) → 0 < radix → v ≤ onwards radix v ds
grows radix v [] some = omega arith
grows radix v (d ∷ ds) some = omega (arith, le-mul_of_pos_right {m = radix} v some, grows radix (v * radix + digit_value d) ds some)

none_and : (a b : Bool) (n : ℕ) → b ≡ false → cond (a && b) (Some n) None ≡ None
none_and true b n e = rw e refl
none_and false b n e = refl

module _ (radix : ℕ) (text : List ℕ) (i v : ℕ) (same : onwards radix v (drop i text) ≡ value_of radix text) where
  pub next : i < length text → onwards radix (v * radix + digit_value (get_or text i 0)) (drop (i + 1) text) ≡ value_of radix text
  next lt = let g = rw (drop-cons text i 0 lt) at same in rw add-one g

  -- where one more is a digit of the base, all are where the others are
  pub all_next :
      i < length text → digit_value (get_or text i 0) < radix
      → list_all (λ b. ltb (digit_value b) radix) (drop i text) ≡ list_all (λ b. ltb (digit_value b) radix) text
      → list_all (λ b. ltb (digit_value b) radix) (drop (i + 1) text) ≡ list_all (λ b. ltb (digit_value b) radix) text
  all_next lt below digits =
      let g = rw (drop-cons text i 0 lt, lt-ltb (digit_value (get_or text i 0)) radix below) at digits in rw add-one g

  -- where a part is too large, the whole is
  pub too_large : i < length text → 0 < radix → 2 ^ 64 ≤ v * radix + digit_value (get_or text i 0) → number_of radix text ≡ None
  too_large lt some large =
      let value = v * radix + digit_value (get_or text i 0) in
      let all = value_of radix text in
      let far : 2 ^ 64 ≤ all = omega (arith, next lt, grows radix value (drop (i + 1) text) some) in
      none_and (list_all (λ b. ltb (digit_value b) radix) text) (ltb all (2 ^ 64)) all (le-ltb all (2 ^ 64) far)
