-- Lists with their places, the first place that passes, and what lists of bytes give.
use Rattle.std.proofs.Common.{◌≡◌, ℕ, zero, suc, ◌+◌, ◌<◌, Bool, true, false, not, List, [], ◌∷◌, ◌++◌, length, get_or, take, drop, map, Some, refl, ap, sym, ◌∙◌, arith, length-append}
use Rattle.std.specs.Prelude.{All, position, flat_map}
use Rattle.std.specs.List.{enumerate_from, prefix_len}
use Rattle.std.proofs.lemmas.Bool.{lt-ltb}
use Rattle.std.proofs.lemmas.List.{take_more, take-append-drop, drop_more, length-take-le}
use Rattle.std.proofs.lemmas.List.Elements.{All-tail}

module _ {X : Type 0} where
  pub enumerate_append : (n : ℕ) (xs ys : List X) → enumerate_from n (xs ++ ys) ≡ enumerate_from n xs ++ enumerate_from (n + length xs) ys
  enumerate_append n [] ys = let same : n ≡ n + 0 = omega arith in ap (λ (k : ℕ). enumerate_from k ys) same
  enumerate_append n (x ∷ xs) ys =
      let step : n + 1 + length xs ≡ n + suc (length xs) = omega arith in
      ap (λ (w : List (ℕ × X)). (n, x) ∷ w) (enumerate_append (n + 1) xs ys ∙ ap (λ (k : ℕ). enumerate_from (n + 1) xs ++ enumerate_from k ys) step)

  -- one more item with its place
  pub enumerate_more : (xs : List X) (i : ℕ) (x : X) → i < length xs → x ≡ get_or xs i x → enumerate_from 0 (take (i + 1) xs) ≡ enumerate_from 0 (take i xs) ++ (i, x) ∷ []
  enumerate_more xs i x lt is =
      let front : take (i + 1) xs ≡ take i xs ++ x ∷ [] = rw (take_more xs i x lt, ← is) refl in
      let size : 0 + length (take i xs) ≡ i = omega (arith, length-take-le i xs (omega arith)) in
      ap (enumerate_from 0) front ∙ enumerate_append 0 (take i xs) (x ∷ []) ∙ ap (λ (k : ℕ). enumerate_from 0 (take i xs) ++ (k, x) ∷ []) size

  -- a list around one of its items
  pub around : (xs : List X) (i : ℕ) (x : X) → i < length xs → x ≡ get_or xs i x → xs ≡ take i xs ++ x ∷ drop (i + 1) xs
  around xs i x lt is = sym (take-append-drop i xs) ∙ ap (λ (w : List X). take i xs ++ w) (rw (drop_more xs i x lt, ← is) refl)

  prefix_at : (q : X → Bool) (xs : List X) (y : X) (ys : List X) → All (λ x. q x ≡ true) xs → q y ≡ false → prefix_len q (xs ++ y ∷ ys) ≡ length xs
  prefix_at q [] y ys all fails = rw fails refl
  prefix_at q (x ∷ xs) y ys all fails =
      let h : q x ≡ true = all 0 x (omega arith) in
      let rest = prefix_at q xs y ys (All-tail (λ x. q x ≡ true) x xs all) fails in
      rw h (omega (arith, rest))

  -- the first item that passes
  pub position_at : (p : X → Bool) (xs : List X) (y : X) (ys : List X) → All (λ x. p x ≡ false) xs → p y ≡ true → position p (xs ++ y ∷ ys) ≡ Some (length xs)
  position_at p xs y ys none here =
      let n : prefix_len (λ x. not (p x)) (xs ++ y ∷ ys) ≡ length xs = prefix_at (λ x. not (p x)) xs y ys (λ k d lt. ap not (none k d lt)) (ap not here) in
      let within : length xs < length (xs ++ y ∷ ys) = omega (arith, length-append xs (y ∷ ys)) in
      rw (n, lt-ltb _ _ within) refl

  -- each place is below the end
  pub places_below : (n : ℕ) (xs : List X) → All (λ (p : ℕ × X). p.0 < n + length xs) (enumerate_from n xs)
  places_below n [] k d lt = absurd (omega arith)
  places_below n (x ∷ xs) zero d lt = omega arith
  places_below n (x ∷ xs) (suc k) d lt = let h = places_below (n + 1) xs k d (omega arith) in omega (arith, h)

module _ {X Y : Type 0} where
  pub flat_map_same : (f g : X → List Y) (xs : List X) → All (λ x. f x ≡ g x) xs → flat_map f xs ≡ flat_map g xs
  flat_map_same f g [] all = refl
  flat_map_same f g (x ∷ xs) all =
      let first : f x ≡ g x = all 0 x (omega arith) in
      let rest : flat_map f xs ≡ flat_map g xs = flat_map_same f g xs (All-tail (λ x. f x ≡ g x) x xs all) in
      λ i. first i ++ rest i

  pub map_same : (f g : X → Y) (xs : List X) → All (λ x. f x ≡ g x) xs → map f xs ≡ map g xs
  map_same f g [] all = refl
  map_same f g (x ∷ xs) all =
      let first : f x ≡ g x = all 0 x (omega arith) in
      let rest : map f xs ≡ map g xs = map_same f g xs (All-tail (λ x. f x ≡ g x) x xs all) in
      λ i. first i ∷ rest i

pub map-map : {X Y Z : Type 0} (f : Y → Z) (h : X → Y) (xs : List X) → map f (map h xs) ≡ map (λ x. f (h x)) xs
map-map f h [] = refl
map-map {Z = Z} f h (x ∷ xs) = ap (λ (w : List Z). f (h x) ∷ w) (map-map f h xs)
