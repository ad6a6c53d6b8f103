-- The first place at which a test passes.
use Rattle.std.proofs.Common.{◌≡◌, ℕ, zero, suc, ◌+◌, ◌<◌, Bool, true, false, cond, ltb, List, [], ◌∷◌, ◌++◌, length, map, find, position, Option, Some, None, is_some, refl, sym, ap, ◌∙◌, zero-add, arith}
use mathlib.Core.Bool.{◌||◌, true≢false}
use Rattle.std.specs.Prelude.{option_map}
use Rattle.std.specs.Option.{option_or}
use Rattle.std.specs.List.{list_any, position_or_len, range_with_len}
use Rattle.std.proofs.lemmas.Bool.Decides.{nat_tests}

module _ {X : Type 0} (p : X → Bool) where
  one_less : (n m : ℕ) → ltb (1 + n) (suc m) ≡ ltb n m
  one_less n m = grind (arith, nat_tests)

  none_less : (m : ℕ) → ltb 0 (suc m) ≡ true
  none_less m = grind (arith, nat_tests)

  lift_some : (b : Bool) (n : ℕ) → cond b (Some (1 + n)) None ≡ option_map suc (cond b (Some n) None)
  lift_some true n = ap Some (omega arith)
  lift_some false n = refl

  pub position_cons : (x : X) (xs : List X) → position p (x ∷ xs) ≡ cond (p x) (Some 0) (option_map suc (position p xs))
  position_cons x xs = by (p x) refl
    where
      by : (b : Bool) → p x ≡ b → position p (x ∷ xs) ≡ cond b (Some 0) (option_map suc (position p xs))
      by true e = rw (e, none_less (length xs)) refl
      by false e = rw (e, one_less (position_or_len p xs) (length xs)) (lift_some (ltb (position_or_len p xs) (length xs)) (position_or_len p xs))

  moved : (n : ℕ) (a b : Option ℕ) → option_map suc (option_or a (option_map (λ j. n + j) b)) ≡ option_or (option_map suc a) (option_map (λ j. suc n + j) b)
  moved n (Some i) b = refl
  moved n None (Some j) = ap Some (omega arith)
  moved n None None = refl

  as_it_is : (o : Option ℕ) → o ≡ option_or None (option_map (λ j. 0 + j) o)
  as_it_is (Some j) = ap Some (omega arith)
  as_it_is None = refl

  -- in the first list, or else in the second
  pub position_append : (xs ys : List X) → position p (xs ++ ys) ≡ option_or (position p xs) (option_map (λ j. length xs + j) (position p ys))
  position_append [] ys = as_it_is (position p ys)
  position_append (x ∷ xs) ys = by (p x) refl (position_append xs ys)
    where
      by : (b : Bool) → p x ≡ b → position p (xs ++ ys) ≡ option_or (position p xs) (option_map (λ j. length xs + j) (position p ys)) → position p (x ∷ xs ++ ys) ≡ option_or (position p (x ∷ xs)) (option_map (λ j. suc (length xs) + j) (position p ys))
      by true e rest = rw (position_cons x (xs ++ ys), position_cons x xs, e) refl
      by false e rest = rw (position_cons x (xs ++ ys), position_cons x xs, e) (ap (option_map suc) rest ∙ moved (length xs) (position p xs) (position p ys))

  some_lifted : (o : Option ℕ) → is_some (option_map suc o) ≡ is_some o
  some_lifted (Some j) = refl
  some_lifted None = refl

  -- there is one exactly where an item passes
  pub is_some_position : (xs : List X) → is_some (position p xs) ≡ list_any p xs
  is_some_position [] = refl
  is_some_position (x ∷ xs) = by (p x) refl (is_some_position xs)
    where
      by : (b : Bool) → p x ≡ b → is_some (position p xs) ≡ list_any p xs → is_some (position p (x ∷ xs)) ≡ (p x || list_any p xs)
      by true e rest = rw (position_cons x xs, e) refl
      by false e rest = rw (position_cons x xs, e) (some_lifted (position p xs) ∙ rest)

  pub none_position : (xs : List X) → list_any p xs ≡ false → position p xs ≡ None
  none_position xs none = by (position p xs) refl
    where
      by : (o : Option ℕ) → position p xs ≡ o → position p xs ≡ None
      by (Some j) e = absurd (true≢false (sym (ap is_some e) ∙ is_some_position xs ∙ none))
      by None e = e

  -- one item more, where none before it passes
  pub position_push : (xs : List X) (y : X) → list_any p xs ≡ false → p y ≡ true → position p (xs ++ y ∷ []) ≡ Some (length xs)
  position_push xs y none is = rw (position_append xs (y ∷ []), none_position xs none, position_cons y [], is) (ap Some (omega arith))

  kept : (o : Option ℕ) → option_or o None ≡ o
  kept (Some j) = refl
  kept None = refl

  -- one item more that doesn't pass
  pub position_keep : (xs : List X) (y : X) → p y ≡ false → position p (xs ++ y ∷ []) ≡ position p xs
  position_keep xs y isnt = rw (position_append xs (y ∷ []), position_cons y [], isnt) (kept (position p xs))

-- ---- the first item that passes

-- among items of a function
pub find_same : (p q : ℕ → Bool) (f : ℕ → ℕ) (xs : List ℕ) → ((k : ℕ) → p (f k) ≡ q (f k)) → find p (map f xs) ≡ find q (map f xs)
find_same p q f [] e = refl
find_same p q f (x ∷ xs) e = λ i. cond (e x i) (Some (f x)) (find_same p q f xs e i)

pub find_first : (p : ℕ → Bool) (f : ℕ → ℕ) (a n k : ℕ) → k < n → ((j : ℕ) → j < k → p (f (a + j)) ≡ false) → p (f (a + k)) ≡ true → find p (map f (range_with_len a n)) ≡ Some (f (a + k))
find_first p f a zero k lt before is = absurd (omega arith)
find_first p f a (suc n) zero lt before is =
    let here : a + 0 ≡ a = omega arith in
    let own = rw here at is in
    rw (own, here) refl
find_first p f a (suc n) (suc k) lt before is =
    let here : a + 0 ≡ a = omega arith in
    let first = before 0 (omega arith) in
    let own = rw here at first in
    let on : (j : ℕ) → a + suc j ≡ (a + 1) + j = λ j. omega arith in
    rw (own, on k) (find_first p f (a + 1) n k (omega arith) (λ j less. ap (λ (w : ℕ). p (f w)) (sym (on j)) ∙ before (suc j) (omega arith)) (ap (λ (w : ℕ). p (f w)) (sym (on k)) ∙ is))

pub find_none : (p : ℕ → Bool) (f : ℕ → ℕ) (a n : ℕ) → ((j : ℕ) → j < n → p (f (a + j)) ≡ false) → find p (map f (range_with_len a n)) ≡ None
find_none p f a zero none = refl
find_none p f a (suc n) none =
    let here : a + 0 ≡ a = omega arith in
    let first = none 0 (omega arith) in
    let own = rw here at first in
    let on : (j : ℕ) → a + suc j ≡ (a + 1) + j = λ j. omega arith in
    rw own (find_none p f (a + 1) n (λ j less. ap (λ (w : ℕ). p (f w)) (sym (on j)) ∙ none (suc j) (omega arith)))

-- among the items of a function at the numbers below n
pub find_below : (p : ℕ → Bool) (f : ℕ → ℕ) (n k : ℕ) → k < n → ((j : ℕ) → j < k → p (f j) ≡ false) → p (f k) ≡ true → find p (map f (range_with_len 0 n)) ≡ Some (f k)
find_below p f n k lt before is =
    let at : (j : ℕ) → 0 + j ≡ j = λ j. zero-add j in
    find_first p f 0 n k lt (λ j less. ap (λ (w : ℕ). p (f w)) (at j) ∙ before j less) (ap (λ (w : ℕ). p (f w)) (at k) ∙ is) ∙ ap (λ (w : ℕ). Some (f w)) (at k)

pub none_below : (p : ℕ → Bool) (f : ℕ → ℕ) (n : ℕ) → ((j : ℕ) → j < n → p (f j) ≡ false) → find p (map f (range_with_len 0 n)) ≡ None
none_below p f n none = find_none p f 0 n (λ j less. ap (λ (w : ℕ). p (f w)) (zero-add j) ∙ none j less)

-- among what a function makes of items
pub position_map : {X Y : Type 0} (p : Y → Bool) (f : X → Y) (xs : List X) → position p (map f xs) ≡ position (λ x. p (f x)) xs
position_map p f [] = refl
position_map p f (x ∷ xs) = position_cons p (f x) (map f xs) ∙ ap (λ (o : Option ℕ). cond (p (f x)) (Some 0) (option_map suc o)) (position_map p f xs) ∙ sym (position_cons (λ y. p (f y)) x xs)
