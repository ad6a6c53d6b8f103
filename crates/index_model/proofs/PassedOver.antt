-- What stands before the item that a search finds.
use Rattle.std.proofs.Common.{◌≡◌, ℕ, Bool, true, false, cond, not, eqb, List, [], ◌∷◌, find, Some, refl}
use Rattle.std.specs.List.{list_all}
use Rattle.std.proofs.lemmas.Bool.{eq-eqb}
use Rattle.index_model.specs.GdbIndexRead.{places_before}

-- before what a search finds on a list, each item is one that it passes over
pub passed_over : (taken : ℕ → Bool) (other : ℕ → Bool) (k : ℕ) (xs : List ℕ) → find (λ s. not (taken s)) xs ≡ Some k → ((s : ℕ) → taken s ≡ true → other s ≡ true) → list_all other (places_before k xs) ≡ true
unfolding places_before
passed_over taken other k [] e over = absurd cc
passed_over taken other k (x ∷ xs) e over = elim (taken x) as (λ b. taken x ≡ b → cond (not b) (Some x) (find (λ s. not (taken s)) xs) ≡ Some k → list_all other (cond (eqb x k) [] (x ∷ places_before k xs)) ≡ true) [
  | true ↦ λ is more. skipped (eqb x k) (over x is) (passed_over taken other k xs more over)
  | false ↦ λ _ found. let same : x ≡ k = cc in rw (eq-eqb x k same) refl
] refl e
  where
    skipped : (b : Bool) → other x ≡ true → list_all other (places_before k xs) ≡ true → list_all other (cond b [] (x ∷ places_before k xs)) ≡ true
    skipped true o more = refl
    skipped false o more = rw o more
