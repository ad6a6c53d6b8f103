-- What stands in the list that each item gave.
use Rattle.std.proofs.Common.{◌≡◌, List, [], ◌∷◌, Result, Ok, sym, subst, arith, ⊎_elim}
use Rattle.std.specs.Prelude.{Contains}
use Rattle.common_laws.proofs.Members.{contains_here, contains_later, contains_cases}
use Rattle.index_model.specs.Meaning.{◌>>=◌, each}
use Rattle.index_model.proofs.Meanings.{bind_ok, same_ok}

module _ {X Y E : Type 0} (f : X → Result Y E) where
  -- each item gave a value
  pub each_gave : (xs : List X) (ys : List Y) → each f xs ≡ Ok ys → (x : X) → Contains xs x → (y : Y) × (f x ≡ Ok y)
  each_gave [] ys is x c = absurd (omega (arith, c.1))
  each_gave (z ∷ zs) ys is x c =
      let a = bind_ok (f z) (λ y. each f zs >>= λ others. Ok (y ∷ others)) ys is in
      let b = bind_ok (each f zs) (λ others. Ok (a.0 ∷ others)) ys a.2 in
      ⊎_elim
      (λ (here : z ≡ x). subst (λ (w : X). (y : Y) × (f w ≡ Ok y)) here (a.0, a.1))
      (λ (later : Contains zs x). each_gave zs b.0 b.1 x later)
      (contains_cases z zs x c)

  -- each value was given by an item
  pub each_given : (xs : List X) (ys : List Y) → each f xs ≡ Ok ys → (y : Y) → Contains ys y → (x : X) × Contains xs x × (f x ≡ Ok y)
  each_given [] ys is y c = let none : [] ≡ ys = same_ok [] ys is in absurd (omega (arith, (subst (λ (l : List Y). Contains l y) (sym none) c).1))
  each_given (z ∷ zs) ys is y c =
      let a = bind_ok (f z) (λ y. each f zs >>= λ others. Ok (y ∷ others)) ys is in
      let b = bind_ok (each f zs) (λ others. Ok (a.0 ∷ others)) ys a.2 in
      ⊎_elim
      (λ (here : a.0 ≡ y). (z, contains_here z zs, subst (λ (w : Y). f z ≡ Ok w) here a.1))
      (λ (later : Contains b.0 y). let m = each_given zs b.0 b.1 y later in (m.0, contains_later z zs m.0 m.1, m.2))
      (contains_cases a.0 b.0 y (subst (λ (l : List Y). Contains l y) (sym (same_ok (a.0 ∷ b.0) ys b.2)) c))
