-- Stacks, seen with the last one first.
use Rattle.std.proofs.Common.{◌≡◌, List, [], ◌∷◌, ◌++◌, refl, ap}
use Rattle.cxx_spelling.specs.Seen.{stacked}

-- what comes last stands first
pub stacked_push : {X Y : Type 0} (view : X → Y) (xs : List X) (x : X) → stacked view (xs ++ x ∷ []) ≡ view x ∷ stacked view xs
stacked_push view [] x = refl
stacked_push view (y ∷ ys) x = ap (λ s. s ++ view y ∷ []) (stacked_push view ys x)
