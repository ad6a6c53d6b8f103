-- Pairs of which both or neither pass, and what is read of each.
use Rattle.std.proofs.Common.{◌≡◌, Bool, true, false, cond, List, [], ◌∷◌, map, filter, Result, Ok, refl, sym, ap, ◌∙◌}
use Rattle.std.specs.Prelude.{Contains}
use Rattle.std.specs.List.{AllZip}
use Rattle.std.proofs.lemmas.Bool.{true≢false}
use Rattle.common_laws.proofs.Members.{contains_here, contains_later}
use Rattle.index_model.specs.Meaning.{◌>>=◌, each}

pub each_map : {A B C E : Type 0} (f : A → B) (g : B → Result C E) (xs : List A) → each g (map f xs) ≡ each (λ x. g (f x)) xs
each_map f g [] = refl
each_map {C = C} {E = E} f g (x ∷ xs) = ap (λ (r : Result (List C) E). g (f x) >>= λ y. r >>= λ ys. Ok (y ∷ ys)) (each_map f g xs)

module _ {A B : Type 0} (R : A → B → Type 0) where
  -- pairs of which both or neither pass
  pub zip_filter : (p : A → Bool) (q : B → Bool) → ((x : A) (y : B) → R x y → p x ≡ q y) → (xs : List A) (ys : List B) → AllZip R xs ys → AllZip R (filter p xs) (filter q ys)
  zip_filter p q same [] [] z = tt
  zip_filter p q same [] (y ∷ ys) z = absurd z
  zip_filter p q same (x ∷ xs) [] z = absurd z
  zip_filter p q same (x ∷ xs) (y ∷ ys) z = by (zip_filter p q same xs ys z.1) (p x) (q y) (same x y z.0)
    where
      by : AllZip R (filter p xs) (filter q ys) → (a b : Bool) → a ≡ b → AllZip R (cond a (x ∷ filter p xs) (filter p xs)) (cond b (y ∷ filter q ys) (filter q ys))
      by rest true true e = (z.0, rest)
      by rest true false e = absurd (true≢false e)
      by rest false true e = absurd (true≢false (sym e))
      by rest false false e = rest

  pub each_zip : {C E : Type 0} (f : A → Result C E) (g : B → Result C E) (xs : List A) (ys : List B) → ((x : A) (y : B) → Contains ys y → R x y → f x ≡ g y) → AllZip R xs ys → each f xs ≡ each g ys
  each_zip f g [] [] same z = refl
  each_zip f g [] (y ∷ ys) same z = absurd z
  each_zip f g (x ∷ xs) [] same z = absurd z
  each_zip {C = C} {E = E} f g (x ∷ xs) (y ∷ ys) same z =
      ap (λ (r : Result C E). r >>= λ v. each f xs >>= λ vs. Ok (v ∷ vs)) (same x y (contains_here y ys) z.0) ∙
      ap (λ (r : Result (List C) E). g y >>= λ v. r >>= λ vs. Ok (v ∷ vs)) (each_zip f g xs ys (λ a b c. same a b (contains_later y ys b c)) z.1)
