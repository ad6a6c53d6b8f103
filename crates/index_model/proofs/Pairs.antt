-- What holds of each two members of a list, the earlier first.
use Rattle.std.proofs.Common.{zero, suc, Bool, true, false, cond, List, [], ◌∷◌, ◌++◌, get_or, subst, arith, ⊎_elim}
use Rattle.std.specs.Prelude.{Contains, AllPairs, map, filter}
use Rattle.std.proofs.lemmas.List.Elements.{Contains-get_or, Contains-append_cases}
use Rattle.common_laws.proofs.Members.{contains_here, contains_later, of_map, to_map, of_filter}

module _ {A : Type 0} (R : A → A → Type 0) where
  abbrev pub Pairs : List A → Type 0
  Pairs [] = Unit {0}
  Pairs (x ∷ xs) = ((y : A) → Contains xs y → R x y) × Pairs xs

  pub all_pairs : (xs : List A) → Pairs xs → AllPairs R xs
  all_pairs [] h i j d lt within = absurd (omega arith)
  all_pairs (x ∷ xs) h zero zero d lt within = absurd (omega arith)
  all_pairs (x ∷ xs) h zero (suc j) d lt within = h.0 (get_or xs j d) (Contains-get_or xs j d (omega arith))
  all_pairs (x ∷ xs) h (suc i) zero d lt within = absurd (omega arith)
  all_pairs (x ∷ xs) h (suc i) (suc j) d lt within = all_pairs xs h.1 i j d (omega arith) (omega arith)

  pub pairs_append : (xs ys : List A) → Pairs xs → Pairs ys → ((x y : A) → Contains xs x → Contains ys y → R x y) → Pairs (xs ++ ys)
  pairs_append [] ys g h both = h
  pairs_append (x ∷ xs) ys g h both = (
    λ y c. ⊎_elim (λ (l : Contains xs y). g.0 y l) (λ (r : Contains ys y). both x y (contains_here x xs) r) (Contains-append_cases xs ys y c),
    pairs_append xs ys g.1 h (λ a b ac bc. both a b (contains_later x xs a ac) bc),
  )

  pub pairs_filter : (p : A → Bool) (xs : List A) → Pairs xs → Pairs (filter p xs)
  pairs_filter p [] h = tt
  pairs_filter p (x ∷ xs) h = elim (p x) as (λ b. Pairs (cond b (x ∷ filter p xs) (filter p xs))) [
    | true ↦ (λ y c. h.0 y (of_filter p xs y c).0, pairs_filter p xs h.1)
    | false ↦ pairs_filter p xs h.1
  ]

pub pairs_weaker : {A : Type 0} (R S : A → A → Type 0) → ((x y : A) → R x y → S x y) → (xs : List A) → Pairs R xs → Pairs S xs
pairs_weaker R S w [] h = tt
pairs_weaker R S w (x ∷ xs) h = (λ y c. w x y (h.0 y c), pairs_weaker R S w xs h.1)

module _ {A B : Type 0} (R : B → B → Type 0) (f : A → B) where
  abbrev pub On : A → A → Type 0
  On x y = R (f x) (f y)

  pub pairs_map : (xs : List A) → Pairs On xs → Pairs R (map f xs)
  pairs_map [] h = tt
  pairs_map (x ∷ xs) h = (λ y c. let m = of_map f xs y c in subst (R (f x)) m.2 (h.0 m.0 m.1), pairs_map xs h.1)

  pub pairs_of_map : (xs : List A) → Pairs R (map f xs) → Pairs On xs
  pairs_of_map [] h = tt
  pairs_of_map (x ∷ xs) h = (λ y c. h.0 (f y) (to_map f xs y c), pairs_of_map xs h.1)
