-- What calls one after the other append, and what a loop appends.
use Rattle.std.proofs.Common.{◌≡◌, ℕ, ◌+◌, ◌<◌, ◌≤◌, List, [], ◌∷◌, ◌++◌, length, get_or, take, map, flat_map, refl, sym, ap, ◌∙◌}
use Rattle.std.proofs.lemmas.List.{append_assoc, append-nil, take_all, take_more}
use Rattle.std.proofs.lemmas.List.Concat.{flat_map-append}

-- two parts
pub two_parts : {A : Type 0} (o a b : List A) {p q : List A} → p ≡ o ++ a → q ≡ p ++ b → q ≡ o ++ (a ++ b)
two_parts {A = A} o a b e1 e2 = e2 ∙ ap (λ (x : List A). x ++ b) e1 ∙ append_assoc o a b

-- three parts
pub three_parts : {A : Type 0} (o a b d : List A) {p q r : List A} → p ≡ o ++ a → q ≡ p ++ b → r ≡ q ++ d → r ≡ o ++ ((a ++ b) ++ d)
three_parts {A = A} o a b d e1 e2 e3 = e3 ∙ ap (λ (x : List A). x ++ d) (two_parts o a b e1 e2) ∙ append_assoc o (a ++ b) d

-- four parts, which stay as they were appended
pub four_parts : {A : Type 0} (o a b d e : List A) {p q r s : List A} → p ≡ o ++ a → q ≡ p ++ b → r ≡ q ++ d → s ≡ r ++ e → s ≡ (((o ++ a) ++ b) ++ d) ++ e
four_parts {A = A} o a b d e e1 e2 e3 e4 = e4 ∙ ap (λ (x : List A). x ++ e) (e3 ∙ ap (λ (x : List A). x ++ d) (e2 ∙ ap (λ (x : List A). x ++ b) e1))

pub flat_map-map : {X Y Z : Type 0} (f : Y → List Z) (h : X → Y) (xs : List X) → flat_map f (map h xs) ≡ flat_map (λ x. f (h x)) xs
flat_map-map f h [] = refl
flat_map-map {Z = Z} f h (x ∷ xs) = ap (λ (w : List Z). f (h x) ++ w) (flat_map-map f h xs)

-- ---- the part of each item

module _ {X A : Type 0} (f : X → List A) (xs : List X) where
  -- before the first
  pub no_part : (o : List A) → o ≡ o ++ flat_map f (take 0 xs)
  no_part o = sym (append-nil o)

  -- one more
  pub more_parts : (i : ℕ) (d : X) (o : List A) {p q : List A} → i < length xs → p ≡ o ++ flat_map f (take i xs) → q ≡ p ++ f (get_or xs i d) → q ≡ o ++ flat_map f (take (i + 1) xs)
  more_parts i d o lt e1 e2 =
      let x : X = get_or xs i d in
      let more : flat_map f (take (i + 1) xs) ≡ flat_map f (take i xs) ++ f x = ap (flat_map f) (take_more xs i d lt) ∙ flat_map-append f (take i xs) (x ∷ []) ∙ ap (λ (w : List A). flat_map f (take i xs) ++ w) (append-nil (f x)) in
      two_parts o (flat_map f (take i xs)) (f x) e1 e2 ∙ ap (λ (w : List A). o ++ w) (sym more)

  -- all
  pub all_parts : (i : ℕ) (o : List A) {p : List A} → length xs ≤ i → p ≡ o ++ flat_map f (take i xs) → p ≡ o ++ flat_map f xs
  all_parts i o le e = e ∙ ap (λ (w : List X). o ++ flat_map f w) (take_all i xs le)
