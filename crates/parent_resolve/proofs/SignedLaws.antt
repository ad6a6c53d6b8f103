-- The type units of a file by their signatures.
use Rattle.std.proofs.Common.{◌≡◌, ℕ, zero, suc, ◌+◌, ◌<◌, ◌≤◌, Bool, true, false, cond, eqb, List, [], ◌∷◌, ◌++◌, length, drop, get_or, Option, Some, None, refl, sym, ap, ◌∙◌, arith, append_assoc, ⊎_elim}
use Rattle.std.specs.Prelude.{filter, filter_map, find, slice_get, option_and_then}
use Rattle.std.specs.Bool.{then_some}
use Rattle.std.specs.List.{enumerate_from, cons_option}
use Rattle.std.specs.List.Sorted.{IsNonDecreasingBy, IsStableByKey, ties}
use Rattle.std.specs.Ordering.{nat_cmp, is_lt}
use Rattle.std.proofs.Math.Seq.{drop-cons}
use Rattle.std.proofs.lemmas.Bool.{eq-eqb, ne_eqb, cases_eq}
use Rattle.std.proofs.lemmas.Bool.Decides.{nat_tests}
use Rattle.index_model.specs.declared.unit.Unit.{Unit as UnitHeader}
use Rattle.parent_resolve.specs.declared.signatures.TypeUnit.{TypeUnit}
use Rattle.parent_resolve.specs.Signed.{as_type_unit, first_signed}

-- ---- in section order

abbrev from_unit : ℕ → List UnitHeader → List TypeUnit
from_unit n us = filter_map as_type_unit (enumerate_from n us)

-- the next unit
pub one_more : (us : List UnitHeader) (n : ℕ) (d : UnitHeader) → n < length us → from_unit n (drop n us) ≡ cons_option (as_type_unit (n, get_or us n d)) (from_unit (n + 1) (drop (n + 1) us))
one_more us n d within =
    let next : suc n ≡ n + 1 = omega arith in
    ap (from_unit n) (drop-cons us n d within) ∙ ap (λ (k : ℕ). cons_option (as_type_unit (n, get_or us n d)) (from_unit (n + 1) (drop k us))) next

pub none_more : (us : List UnitHeader) (n : ℕ) → length us ≤ n → from_unit n (drop n us) ≡ []
none_more [] zero le = refl
none_more [] (suc n) le = refl
none_more (u ∷ us) zero le = absurd (omega arith)
none_more (u ∷ us) (suc n) le = later us n (suc n) (omega (arith, le))
  where
    later : (us : List UnitHeader) (n k : ℕ) → length us ≤ n → from_unit k (drop n us) ≡ []
    later [] zero k le = refl
    later [] (suc n) k le = refl
    later (u ∷ us) zero k le = absurd (omega arith)
    later (u ∷ us) (suc n) k le = later us n k (omega (arith, le))

-- what was found and the next
pub found_one : (found : List TypeUnit) (t : TypeUnit) (ts all : List TypeUnit) (o : Option TypeUnit) → o ≡ Some t → found ++ cons_option o ts ≡ all → (found ++ t ∷ []) ++ ts ≡ all
found_one found t ts all o is h = append_assoc found (t ∷ []) ts ∙ ap (λ (x : Option TypeUnit). found ++ cons_option x ts) (sym is) ∙ h

pub found_none : (found ts all : List TypeUnit) (o : Option TypeUnit) → o ≡ None → found ++ cons_option o ts ≡ all → found ++ ts ≡ all
found_none found ts all o is h = ap (λ (x : Option TypeUnit). found ++ cons_option x ts) (sym is) ∙ h

-- in a loop, what was found before the next
pub before_next : (us : List UnitHeader) (n : ℕ) (d : UnitHeader) (found all : List TypeUnit) → n < length us → found ++ from_unit n (drop n us) ≡ all → found ++ cons_option (as_type_unit (n, get_or us n d)) (from_unit (n + 1) (drop (n + 1) us)) ≡ all
before_next us n d found all within h = ap (λ (ts : List TypeUnit). found ++ ts) (sym (one_more us n d within)) ∙ h

-- ---- by signature

pub then_is : (b : Bool) (t : TypeUnit) → then_some b t ≡ cond b (Some t) None
then_is true t = refl
then_is false t = refl

-- the first of a list
abbrev first_of : List TypeUnit → Option TypeUnit
first_of [] = None
first_of (t ∷ ts) = Some t

module _ (s : ℕ) where
  abbrev signed : TypeUnit → Bool
  signed t = eqb t.signature s

  -- the first with the signature is the first of those with it
  find_first : (ts : List TypeUnit) → find signed ts ≡ first_of (filter signed ts)
  find_first [] = refl
  find_first (t ∷ ts) =
      elim (signed t) as (λ b. cond b (Some t) (find signed ts) ≡ first_of (cond b (t ∷ filter signed ts) (filter signed ts))) [
        | true ↦ refl
        | false ↦ find_first ts
      ]

  filter_same : (p : TypeUnit → Bool) (ts : List TypeUnit) → ((t : TypeUnit) → p t ≡ signed t) → filter p ts ≡ filter signed ts
  filter_same p [] same = refl
  filter_same p (t ∷ ts) same = ap (λ (b : Bool). cond b (t ∷ filter p ts) (filter p ts)) (same t) ∙ ap (λ (rest : List TypeUnit). cond (signed t) (t ∷ rest) rest) (filter_same p ts same)

  abbrev with_signature : TypeUnit
  with_signature = record { signature = s; unit = 0; type_offset = 0 }

  abbrev before : TypeUnit → TypeUnit → Bool
  before x y = is_lt (nat_cmp x.signature y.signature)

  tie_is : (t : TypeUnit) → ties before with_signature t ≡ signed t
  tie_is t = grind (arith, nat_tests)

  -- a stable sort keeps the first with each signature
  pub first_stays : (xs ys : List TypeUnit) → IsStableByKey (λ t. t.signature) nat_cmp xs ys → first_signed ys s ≡ first_signed xs s
  first_stays xs ys stable =
      find_first ys ∙
      ap first_of (sym (filter_same (ties before with_signature) ys tie_is) ∙ stable with_signature ∙ filter_same (ties before with_signature) xs tie_is) ∙
      sym (find_first xs)

  -- where all signatures are larger there is none
  none_signed : (ts : List TypeUnit) → ((k : ℕ) (d : TypeUnit) → k < length ts → s < (get_or ts k d).signature) → find signed ts ≡ None
  none_signed [] larger = refl
  none_signed (t ∷ ts) larger =
      let lt = larger 0 t (omega arith) in
      ap (λ (b : Bool). cond b (Some t) (find signed ts)) (ne_eqb t.signature s (λ e. omega (arith, e, lt))) ∙ none_signed ts (λ k d l. larger (suc k) d (omega (arith, l)))

  abbrev pub if_signed : TypeUnit → Option TypeUnit
  if_signed t = cond (signed t) (Some t) None

  abbrev Rising : List TypeUnit → Type 0
  Rising ts = IsNonDecreasingBy (λ t. t.signature) ts

  -- the first with the signature stands where the larger ones begin
  pub at_point : (ts : List TypeUnit) (n : ℕ) → Rising ts → ((k : ℕ) (d : TypeUnit) → k < n → (get_or ts k d).signature < s) → ((k : ℕ) (d : TypeUnit) → n ≤ k → k < length ts → s ≤ (get_or ts k d).signature) → first_signed ts s ≡ option_and_then if_signed (slice_get ts n)
  at_point [] n rise smaller larger = refl
  at_point (t ∷ ts) zero rise smaller larger = ⊎_elim
      (λ (same : t.signature ≡ s). rw (eq-eqb t.signature s same) refl)
      (λ (other : t.signature ≡ s → ⊥).
      let least = larger 0 t (omega arith) (omega arith) in
      let none : find signed ts ≡ None = none_signed ts (λ k d l. let up = rise 0 (suc k) d (omega arith) (omega (arith, l)) in omega (arith, least, other, up)) in
      rw (ne_eqb t.signature s other) none)
      (cases_eq t.signature s)
  at_point (t ∷ ts) (suc n) rise smaller larger =
      let lt = smaller 0 t (omega arith) in
      ap (λ (b : Bool). cond b (Some t) (find signed ts)) (ne_eqb t.signature s (λ e. omega (arith, e, lt))) ∙
      at_point ts n (λ i j d le l. rise (suc i) (suc j) d (omega (arith, le)) (omega (arith, l))) (λ k d l. smaller (suc k) d (omega (arith, l))) (λ k d le l. larger (suc k) d (omega (arith, le)) (omega (arith, l)))
