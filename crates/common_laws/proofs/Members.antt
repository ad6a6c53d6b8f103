-- The members of lists.
use Rattle.std.proofs.Common.{◌≡◌, zero, suc, Bool, true, false, cond, List, [], ◌∷◌, find, Option, Some, refl, sym, ap, subst, ◌∙◌, arith, inl, inr, ⊎_elim}
use Rattle.std.specs.List.{last_or}
use Rattle.std.specs.Prelude.{Contains, map, filter, flat_map}
use Rattle.std.proofs.lemmas.Bool.{true≢false}
use Rattle.std.proofs.lemmas.Option.{same_Some}
use Rattle.std.proofs.lemmas.List.Elements.{Contains-append_left, Contains-append_right, Contains-append_cases}
use mathlib.Core.Logic.{◌⊎◌}

pub contains_here : {A : Type 0} (x : A) (xs : List A) → Contains (x ∷ xs) x
contains_here x xs = (0, omega arith, refl)

pub contains_later : {A : Type 0} (x : A) (xs : List A) (y : A) → Contains xs y → Contains (x ∷ xs) y
contains_later x xs y h = (suc h.0, omega (arith, h.1), h.2)

pub contains_cases : {A : Type 0} (x : A) (xs : List A) (y : A) → Contains (x ∷ xs) y → (x ≡ y) ⊎ Contains xs y
contains_cases x xs y (zero, l, e) = inl e
contains_cases x xs y (suc k, l, e) = inr (k, omega (arith, l), e)

-- a member of a map is that of a member
pub of_map : {A B : Type 0} (f : A → B) (xs : List A) (y : B) → Contains (map f xs) y → (x : A) × Contains xs x × (f x ≡ y)
of_map f [] y c = absurd (omega (arith, c.1))
of_map f (x ∷ xs) y c = ⊎_elim (λ (e : f x ≡ y). (x, contains_here x xs, e)) (λ (l : Contains (map f xs) y). let r = of_map f xs y l in (r.0, contains_later x xs r.0 r.1, r.2)) (contains_cases (f x) (map f xs) y c)

pub to_map : {A B : Type 0} (f : A → B) (xs : List A) (x : A) → Contains xs x → Contains (map f xs) (f x)
to_map f [] x c = absurd (omega (arith, c.1))
to_map f (y ∷ xs) x c = ⊎_elim (λ (e : y ≡ x). subst (λ z. Contains (f y ∷ map f xs) (f z)) e (contains_here (f y) (map f xs))) (λ (l : Contains xs x). contains_later (f y) (map f xs) (f x) (to_map f xs x l)) (contains_cases y xs x c)

-- a member of a filter is a member that passes
pub of_filter : {A : Type 0} (p : A → Bool) (xs : List A) (y : A) → Contains (filter p xs) y → Contains xs y × (p y ≡ true)
of_filter p [] y c = absurd (omega (arith, c.1))
of_filter {A = A} p (x ∷ xs) y c =
    elim (p x) as (λ b. p x ≡ b → Contains (cond b (x ∷ filter p xs) (filter p xs)) y → Contains (x ∷ xs) y × (p y ≡ true)) [
      | true ↦ λ is d. ⊎_elim (λ (e : x ≡ y). (subst (Contains (x ∷ xs)) e (contains_here x xs), subst (λ (z : A). p z ≡ true) e is)) (λ (l : Contains (filter p xs) y). let r = of_filter p xs y l in (contains_later x xs y r.0, r.1)) (contains_cases x (filter p xs) y d)
      | false ↦ λ is d. let r = of_filter p xs y d in (contains_later x xs y r.0, r.1)
    ] refl c

-- and a member that passes is one of the filter
pub to_filter : {A : Type 0} (p : A → Bool) (xs : List A) (y : A) → Contains xs y → p y ≡ true → Contains (filter p xs) y
to_filter p [] y c t = absurd (omega (arith, c.1))
to_filter {A = A} p (x ∷ xs) y c t =
    elim (p x) as (λ b. p x ≡ b → Contains (cond b (x ∷ filter p xs) (filter p xs)) y) [
      | true ↦ λ is. ⊎_elim (λ (e : x ≡ y). subst (Contains (x ∷ filter p xs)) e (contains_here x (filter p xs))) (λ (l : Contains xs y). contains_later x (filter p xs) y (to_filter p xs y l t)) (contains_cases x xs y c)
      | false ↦ λ is. ⊎_elim (λ (e : x ≡ y). absurd (true≢false (sym t ∙ ap p (sym e) ∙ is))) (λ (l : Contains xs y). to_filter p xs y l t) (contains_cases x xs y c)
    ] refl

pub of_flat_map : {A B : Type 0} (f : A → List B) (xs : List A) (y : B) → Contains (flat_map f xs) y → (x : A) × Contains xs x × Contains (f x) y
of_flat_map f [] y c = absurd (omega (arith, c.1))
of_flat_map f (x ∷ xs) y c = ⊎_elim (λ (l : Contains (f x) y). (x, contains_here x xs, l)) (λ (l : Contains (flat_map f xs) y). let r = of_flat_map f xs y l in (r.0, contains_later x xs r.0 r.1, r.2)) (Contains-append_cases (f x) (flat_map f xs) y c)

-- a member of a member's list is one of all lists
pub to_flat_map : {A B : Type 0} (f : A → List B) (xs : List A) (x : A) (y : B) → Contains xs x → Contains (f x) y → Contains (flat_map f xs) y
to_flat_map f [] x y c l = absurd (omega (arith, c.1))
to_flat_map f (z ∷ zs) x y c l = ⊎_elim
    (λ (same : z ≡ x). Contains-append_left (f z) (flat_map f zs) y (subst (λ w. Contains (f w) y) (sym same) l))
    (λ (later : Contains zs x). Contains-append_right (f z) (flat_map f zs) y (to_flat_map f zs x y later l))
    (contains_cases z zs x c)

-- what is found is a member that passes
pub of_find : {A : Type 0} (p : A → Bool) (xs : List A) (y : A) → find p xs ≡ Some y → Contains xs y × (p y ≡ true)
of_find p [] y is = absurd cc
of_find {A = A} p (x ∷ xs) y is =
    elim (p x) as (λ b. p x ≡ b → cond b (Some x) (find p xs) ≡ Some y → Contains (x ∷ xs) y × (p y ≡ true)) [
      | true ↦ λ on e. let s = same_Some x y e in (subst (Contains (x ∷ xs)) s (contains_here x xs), ap p (sym s) ∙ on)
      | false ↦ λ off e. let r = of_find p xs y e in (contains_later x xs y r.0, r.1)
    ] refl is

-- the last member, or what it was before any
pub last_member : {A : Type 0} (o : Option A) (xs : List A) (x : A) → last_or o xs ≡ Some x → (o ≡ Some x) ⊎ Contains xs x
last_member o [] x e = inl e
last_member o (y ∷ ys) x e = ⊎_elim
    (λ (own : Some y ≡ Some x). inr (subst (Contains (y ∷ ys)) (same_Some y x own) (contains_here y ys)))
    (λ (l : Contains ys x). inr (contains_later y ys x l))
    (last_member (Some y) ys x e)
