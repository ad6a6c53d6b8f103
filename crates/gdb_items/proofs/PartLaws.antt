-- Lists that are made of one unit after the other.
use Rattle.std.proofs.Common.{◌≡◌, ◌<◌, ℕ, suc, ◌+◌, List, [], ◌∷◌, ◌++◌, length, get_or, map, flat_map, take, drop, append-nil, append_assoc, Some, refl, sym, ap, ◌∙◌, arith}
use Rattle.std.specs.Prelude.{slice_get}
use Rattle.std.specs.List.{enumerate_from}
use Rattle.std.proofs.Math.Seq.{drop-cons}
use Rattle.std.proofs.lemmas.Grind.{flat_map-append}
use Rattle.std.proofs.lemmas.List.{map-append}

module _ {A B : Type 0} where
  -- a map of one more
  pub map_more : (f : A → B) (ws : List A) (n : ℕ) (w : A) → take (suc n) ws ≡ take n ws ++ w ∷ [] → map f (take (n + 1) ws) ≡ map f (take n ws) ++ f w ∷ []
  map_more f ws n w more =
      let next : n + 1 ≡ suc n = omega arith in
      ap (λ (k : ℕ). map f (take k ws)) next ∙ ap (map f) more ∙ map-append f (take n ws) (w ∷ [])

  pub flat_more : (f : A → List B) (ws : List A) (n : ℕ) (w : A) → take (suc n) ws ≡ take n ws ++ w ∷ [] → flat_map f (take (n + 1) ws) ≡ flat_map f (take n ws) ++ f w
  flat_more f ws n w more =
      let next : n + 1 ≡ suc n = omega arith in
      ap (λ (k : ℕ). flat_map f (take k ws)) next ∙ ap (flat_map f) more ∙ flat_map-append f (take n ws) (w ∷ []) ∙ ap (λ (xs : List B). flat_map f (take n ws) ++ xs) (append-nil (f w))

module _ {A B : Type 0} (f : ℕ × A → B) where
  -- what is made so far and the next
  pub each_one : (ws : List A) (n : ℕ) (d : A) (made all : List B) → n < length ws → made ++ map f (enumerate_from n (drop n ws)) ≡ all → (made ++ f (n, get_or ws n d) ∷ []) ++ map f (enumerate_from (n + 1) (drop (n + 1) ws)) ≡ all
  each_one ws n d made all lt h =
      let next : suc n ≡ n + 1 = omega arith in
      let first : enumerate_from n (drop n ws) ≡ (n, get_or ws n d) ∷ enumerate_from (n + 1) (drop (n + 1) ws) =
      ap (enumerate_from n) (drop-cons ws n d lt) ∙ ap (λ (k : ℕ). (n, get_or ws n d) ∷ enumerate_from (n + 1) (drop k ws)) next in
      append_assoc made (f (n, get_or ws n d) ∷ []) (map f (enumerate_from (n + 1) (drop (n + 1) ws))) ∙
      ap (λ (xs : List (ℕ × A)). made ++ map f xs) (sym first) ∙
      h

module _ {A B C : Type 0} (f : ℕ → B) (g : A → B) (h : A → C) where
  -- what is made of the numbers is made of the members
  pub by_number : (n : ℕ) (ws : List A) → ((k : ℕ) (w : A) → slice_get ws k ≡ Some w → f (n + k) ≡ g w) → map (λ (u : ℕ × C). f u.0) (enumerate_from n (map h ws)) ≡ map g ws
  by_number n [] each = refl
  by_number n (w ∷ ws) each =
      let rest : List B = map (λ (u : ℕ × C). f u.0) (enumerate_from (n + 1) (map h ws)) in
      let first : n ≡ n + 0 = omega arith in
      ap (λ (b : B). b ∷ rest) (ap f first ∙ each 0 w refl) ∙
      ap (λ (bs : List B). g w ∷ bs) (by_number (n + 1) ws (λ k v is. let later : (n + 1) + k ≡ n + suc k = omega arith in ap f later ∙ each (suc k) v is))
