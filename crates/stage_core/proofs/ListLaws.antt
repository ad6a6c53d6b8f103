-- Elements of lists.
use Rattle.std.proofs.Common.{◌≡◌, ◌<◌, ℕ, zero, suc, List, [], ◌∷◌, ◌++◌, length, Some, refl, arith}
use Rattle.std.specs.Prelude.{slice_get}

module _ {A : Type 0} where
  pub get_in_front : (xs ys : List A) (i : ℕ) → i < length xs → slice_get (xs ++ ys) i ≡ slice_get xs i
  get_in_front [] ys i lt = absurd (omega (arith, lt))
  get_in_front (x ∷ xs) ys zero lt = refl
  get_in_front (x ∷ xs) ys (suc i) lt = get_in_front xs ys i (omega (arith, lt))

  pub get_behind : (xs ys : List A) (x : A) → slice_get (xs ++ x ∷ ys) (length xs) ≡ Some x
  get_behind [] ys x = refl
  get_behind (y ∷ xs) ys x = get_behind xs ys x
