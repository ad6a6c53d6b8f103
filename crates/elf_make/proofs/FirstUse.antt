-- Lists whose later items all stand in front already.
use Rattle.std.proofs.Common.{◌≡◌, Bool, true, false, not, cond, List, [], ◌∷◌, ◌++◌, refl, sym, ap, ◌∙◌}
use mathlib.Core.Bool.{◌||◌, ◌&&◌}
use Rattle.std.specs.Prelude.{filter}
use Rattle.std.specs.List.{list_any, list_all}
use Rattle.std.proofs.lemmas.List.{append-nil}
use Rattle.std.proofs.lemmas.List.Elements.{filter-append}
use Rattle.index_model.specs.Ordered.{distinct}

module _ {X : Type 0} (p : X → Bool) where
  -- where each item passes, none is left of those that don't
  none_left : (xs : List X) → list_all p xs ≡ true → filter (λ x. not (p x)) xs ≡ []
  none_left [] h = refl
  none_left (x ∷ xs) h = by (p x) (none_left xs) h
    where
      by : (b : Bool) → (list_all p xs ≡ true → filter (λ y. not (p y)) xs ≡ []) → (b && list_all p xs) ≡ true
          → cond (not b) (x ∷ filter (λ y. not (p y)) xs) (filter (λ y. not (p y)) xs) ≡ []
      by true rest all = rest all
      by false rest all = absurd cc

  all_kept : (q : X → Bool) (xs : List X) → list_all p xs ≡ true → list_all p (filter q xs) ≡ true
  all_kept q [] h = refl
  all_kept q (x ∷ xs) h = by (p x) (q x) refl (all_kept q xs) h
    where
      by : (b c : Bool) → p x ≡ b → (list_all p xs ≡ true → list_all p (filter q xs) ≡ true) → (b && list_all p xs) ≡ true
          → list_all p (cond c (x ∷ filter q xs) (filter q xs)) ≡ true
      by true true e rest all = rw e (rest all)
      by true false e rest all = rest all
      by false c e rest all = absurd cc

  all_distinct : (same : X → X → Bool) (xs : List X) → list_all p xs ≡ true → list_all p (distinct same xs) ≡ true
  unfolding distinct
  all_distinct same [] h = refl
  all_distinct same (x ∷ xs) h = by (p x) (all_distinct same xs) h
    where
      by : (b : Bool) → (list_all p xs ≡ true → list_all p (distinct same xs) ≡ true) → (b && list_all p xs) ≡ true
          → (b && list_all p (filter (λ y. not (same x y)) (distinct same xs))) ≡ true
      by true rest all = all_kept (λ y. not (same x y)) (distinct same xs) (rest all)
      by false rest all = absurd cc

  filter_twice : (q : X → Bool) (xs : List X) → filter (λ x. not (q x)) (filter (λ x. not (p x)) xs) ≡ filter (λ x. not (q x || p x)) xs
  filter_twice q [] = refl
  filter_twice q (x ∷ xs) = by (p x) (q x) refl (filter_twice q xs)
    where
      by : (b c : Bool) → q x ≡ c → filter (λ y. not (q y)) (filter (λ y. not (p y)) xs) ≡ filter (λ y. not (q y || p y)) xs
          → filter (λ y. not (q y)) (cond (not b) (x ∷ filter (λ y. not (p y)) xs) (filter (λ y. not (p y)) xs))
          ≡ cond (not (c || b)) (x ∷ filter (λ y. not (q y || p y)) xs) (filter (λ y. not (q y || p y)) xs)
      by true true e rest = rest
      by true false e rest = rest
      by false true e rest = rw e rest
      by false false e rest = rw e (ap (λ ys. x ∷ ys) rest)

filter_all : {X : Type 0} (xs : List X) → filter (λ x. true) xs ≡ xs
filter_all [] = refl
filter_all (x ∷ xs) = ap (λ ys. x ∷ ys) (filter_all xs)

module _ {X : Type 0} (same : X → X → Bool) where
  -- whether an item stands in a list
  abbrev pub stands_in : List X → X → Bool
  stands_in xs y = list_any (λ x. same x y) xs

  distinct_append : (xs ys : List X) → distinct same (xs ++ ys) ≡ distinct same xs ++ filter (λ y. not (stands_in xs y)) (distinct same ys)
  unfolding distinct
  distinct_append [] ys = sym (filter_all (distinct same ys))
  distinct_append (x ∷ xs) ys =
      ap (λ zs. x ∷ filter (λ y. not (same x y)) zs) (distinct_append xs ys)
      ∙ ap (λ zs. x ∷ zs) (filter-append (λ y. not (same x y)) (distinct same xs) _
      ∙ ap (λ zs. filter (λ y. not (same x y)) (distinct same xs) ++ zs) (filter_twice (stands_in xs) (same x) (distinct same ys)))

  -- items that stand in front change nothing
  pub distinct_known : (xs ys : List X) → list_all (stands_in xs) ys ≡ true → distinct same (xs ++ ys) ≡ distinct same xs
  distinct_known xs ys h =
      distinct_append xs ys
      ∙ ap (λ zs. distinct same xs ++ zs) (none_left (stands_in xs) (distinct same ys) (all_distinct (stands_in xs) same ys h))
      ∙ append-nil (distinct same xs)
