-- The root at an offset, where the roots rise.
use Rattle.std.proofs.Common.{◌≡◌, ℕ, zero, suc, ◌<◌, ◌≤◌, Bool, true, false, cond, eqb, List, [], ◌∷◌, length, get_or, Option, Some, None, refl, ap, ◌∙◌, arith, ⊎_elim}
use Rattle.std.specs.Prelude.{find, slice_get, option_and_then}
use Rattle.std.specs.Option.{option_map}
use Rattle.std.specs.Bool.{then_some}
use Rattle.std.specs.List.Sorted.{IsNonDecreasingBy}
use Rattle.std.proofs.lemmas.Bool.{eq-eqb, ne_eqb, cases_eq}
use Rattle.gdb_units.specs.declared.partial_roots.PartialRoot.{PartialRoot}

pub then_unit : (b : Bool) (r : PartialRoot) → then_some b r.unit ≡ option_map (λ x. x.unit) (cond b (Some r) None)
then_unit true r = refl
then_unit false r = refl

module _ (o : ℕ) where
  abbrev stands : PartialRoot → Bool
  stands r = eqb r.offset o

  -- where all stand behind the offset there is none
  none_there : (rs : List PartialRoot) → ((k : ℕ) (d : PartialRoot) → k < length rs → o < (get_or rs k d).offset) → find stands rs ≡ None
  none_there [] larger = refl
  none_there (r ∷ rs) larger =
      let lt = larger 0 r (omega arith) in
      ap (λ (b : Bool). cond b (Some r) (find stands rs)) (ne_eqb r.offset o (λ e. omega (arith, e, lt))) ∙ none_there rs (λ k d l. larger (suc k) d (omega (arith, l)))

  abbrev pub if_there : PartialRoot → Option PartialRoot
  if_there r = cond (stands r) (Some r) None

  -- the root at the offset stands where those begin that aren't before it
  pub at_point : (rs : List PartialRoot) (n : ℕ) → IsNonDecreasingBy (λ r. r.offset) rs → ((k : ℕ) (d : PartialRoot) → k < n → (get_or rs k d).offset < o) → ((k : ℕ) (d : PartialRoot) → n ≤ k → k < length rs → o ≤ (get_or rs k d).offset) → find (λ r. eqb r.offset o) rs ≡ option_and_then if_there (slice_get rs n)
  at_point [] n rise smaller larger = refl
  at_point (r ∷ rs) zero rise smaller larger = ⊎_elim
      (λ (same : r.offset ≡ o). rw (eq-eqb r.offset o same) refl)
      (λ (other : r.offset ≡ o → ⊥).
      let least = larger 0 r (omega arith) (omega arith) in
      let none : find stands rs ≡ None = none_there rs (λ k d l. let up = rise 0 (suc k) d (omega arith) (omega (arith, l)) in omega (arith, least, other, up)) in
      rw (ne_eqb r.offset o other) none)
      (cases_eq r.offset o)
  at_point (r ∷ rs) (suc n) rise smaller larger =
      let lt = smaller 0 r (omega arith) in
      ap (λ (b : Bool). cond b (Some r) (find stands rs)) (ne_eqb r.offset o (λ e. omega (arith, e, lt))) ∙
      at_point rs n (λ i j d le l. rise (suc i) (suc j) d (omega (arith, le)) (omega (arith, l))) (λ k d l. smaller (suc k) d (omega (arith, l))) (λ k d le l. larger (suc k) d (omega (arith, le)) (omega (arith, l)))
