-- Strictly ascending lists.
use Rattle.std.specs.Prelude.{◌≡◌, Bool, true, List, [], ◌∷◌, Contains, ◌⊎◌}

-- each item is below all that follow
abbrev pub Rises : {A : Type 0} → (A → A → Bool) → List A → Type 0
Rises less [] = Unit {0}
Rises {A = A} less (x ∷ xs) = ((y : A) → Contains xs y → less x y ≡ true) × Rises less xs

-- the other list has the items of this one, and x
pub record Adds {A : Type 0} (x : A) (old new : List A) : Type 0 where
  pub own : Contains new x
  pub kept : (y : A) → Contains old y → Contains new y
  pub only : (y : A) → Contains new y → Contains old y ⊎ (x ≡ y)
