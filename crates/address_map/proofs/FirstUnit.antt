-- The unit at an address is that of the first range that contains it.
use Rattle.std.proofs.Common.{◌≡◌, ℕ, Bool, true, false, cond, List, [], ◌∷◌, Option, Some, None, refl, sym, ap, subst, arith, ⊎_elim, ◌∙◌}
use Rattle.std.specs.Prelude.{Contains}
use Rattle.std.proofs.lemmas.Bool.{false≢true}
use Rattle.common_laws.proofs.Members.{contains_cases}
use Rattle.index_model.specs.declared.range.UnitRange.{UnitRange}
use Rattle.index_model.specs.Ranges.{contains, unit_at}
use Rattle.index_model.specs.Pieces.{IsPieces, pieces}
use Rattle.index_model.proofs.PieceLaws.{nothing, pieces_are}
use Rattle.address_map.specs.Laws.{NoneContains, IsFirstUnit, PiecesHaveTheFirstUnits}
use Rattle.address_map.proofs.UnitAt.{unit_at-cons}

no_range : (a : ℕ) → NoneContains [] a
no_range a r c held = absurd (omega (arith, c.1))

none_more : (p : UnitRange) (ps : List UnitRange) (a : ℕ) → contains a p.range ≡ false → NoneContains ps a → NoneContains (p ∷ ps) a
none_more p ps a not none r c held =
    ⊎_elim (λ (e : p ≡ r). false≢true (sym not ∙ ap (λ (w : UnitRange). contains a w.range) e ∙ held)) (λ (d : Contains ps r). none r d held) (contains_cases p ps r c)

later : (p : UnitRange) (ps : List UnitRange) (a : ℕ) (o : Option ℕ) → contains a p.range ≡ false → IsFirstUnit ps a o → IsFirstUnit (p ∷ ps) a o
later p ps a None not h = none_more p ps a not h
later p ps a (Some u) not (r, first, unit) = (
  r,
  record {
    front = p ∷ first.front;
    rest = first.rest;
    stands = ap (λ (xs : List UnitRange). p ∷ xs) first.stands;
    contained = first.contained;
    none_in_front = none_more p first.front a not first.none_in_front;
  },
  unit,
)

here : (p : UnitRange) (ps : List UnitRange) (a : ℕ) → contains a p.range ≡ true → IsFirstUnit (p ∷ ps) a (Some p.unit)
here p ps a held = (p, record { front = []; rest = ps; stands = refl; contained = held; none_in_front = no_range a }, refl)

choice : (p : UnitRange) (ps : List UnitRange) (a : ℕ) (b : Bool) → contains a p.range ≡ b → IsFirstUnit ps a (unit_at ps a) → IsFirstUnit (p ∷ ps) a (cond b (Some p.unit) (unit_at ps a))
choice p ps a true held others = here p ps a held
choice p ps a false not others = later p ps a (unit_at ps a) not others

pub first_unit : (ranges : List UnitRange) (a : ℕ) → IsFirstUnit ranges a (unit_at ranges a)
first_unit [] a = subst (IsFirstUnit [] a) (sym (nothing a)) (no_range a)
first_unit (p ∷ ps) a = subst (IsFirstUnit (p ∷ ps) a) (sym (unit_at-cons p ps a)) (choice p ps a (contains a p.range) refl (first_unit ps a))

pub first_of_pieces : (ranges ps : List UnitRange) → IsPieces ranges ps → (a : ℕ) → IsFirstUnit ranges a (unit_at ps a)
first_of_pieces ranges ps is a = subst (IsFirstUnit ranges a) (sym (is.same a)) (first_unit ranges a)

pub pieces_have_the_first : PiecesHaveTheFirstUnits
pieces_have_the_first ranges = first_of_pieces ranges (pieces ranges) (pieces_are ranges)
