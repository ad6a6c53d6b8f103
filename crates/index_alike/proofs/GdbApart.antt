-- Units have numbers of their own, and elements say what they are made of.
use Rattle.std.proofs.Common.{◌≡◌, ℕ, ◌+◌, ◌*◌, ◌^◌, ◌<◌, Bool, true, false, not, cond, eqb, List, [], ◌∷◌, length, get_or, Option, unwrap_or, refl, sym, ap, ◌∙◌, arith, zero-add}
use Rattle.std.specs.Prelude.{Contains, filter}
use Rattle.std.specs.List.{enumerate_from, list_any, position_or_len}
use Rattle.std.proofs.lemmas.Bool.{eqb-true, eq-eqb}
use Rattle.std.proofs.lemmas.List.{get_or_default}
use Rattle.std.proofs.lemmas.List.Elements.{Contains-append_left, Contains-append_right}
use Rattle.std.proofs.lemmas.List.Folds.{list_any_at}
use Rattle.std.proofs.lemmas.List.FromFn.{length-enumerate_from, get_or-enumerate_from}
use Rattle.std.proofs.lemmas.List.Sums.{passes_at_first}
use Rattle.common_laws.proofs.Members.{to_filter}
use Rattle.common_laws.proofs.Lists.{position_within}
use Rattle.index_model.specs.declared.entry.Kind.{Kind}
use Rattle.index_model.specs.declared.entry.Kind.TheVariants.{TypeName, Variable, Function, Other}
use Rattle.index_model.specs.declared.unit.Unit.{Unit as UnitHeader}
use Rattle.index_model.specs.GdbIndex.{is_type_unit, index_order, index_number, kind_number}
use Rattle.index_alike.specs.GdbAlike.{NumbersAreApart, ElementsAreApart}
use Rattle.index_alike.proofs.GdbElements.{kind_low}
use Rattle.index_alike.proofs.GdbPositions.{position_is}
use Rattle.index_alike.proofs.GdbUnits.{number_below}

module _ (units : List UnitHeader) (first : UnitHeader) where
  abbrev has_number : ℕ → ℕ × UnitHeader → Bool
  has_number i u = eqb u.0 i

  -- each unit stands in the order of the index
  in_order : (i : ℕ) → i < length units → Contains (index_order units) (i, get_or units i first)
  in_order i lt = by (is_type_unit own) refl
    where
      own : UnitHeader
      own = get_or units i first

      all : List (ℕ × UnitHeader)
      all = enumerate_from 0 units

      there : Contains all (i, own)
      there = (i, omega (arith, lt, length-enumerate_from 0 units), get_or-enumerate_from 0 units i (i, own) lt ∙ (λ j. (zero-add i j, get_or_default units i own first lt j)))

      by : (b : Bool) → is_type_unit own ≡ b → Contains (index_order units) (i, own)
      by true e = Contains-append_right (filter (λ u. not (is_type_unit u.1)) all) (filter (λ u. is_type_unit u.1) all) (i, own) (to_filter (λ (u : ℕ × UnitHeader). is_type_unit u.1) all (i, own) there e)
      by false e = Contains-append_left (filter (λ u. not (is_type_unit u.1)) all) (filter (λ u. is_type_unit u.1) all) (i, own) (to_filter (λ (u : ℕ × UnitHeader). not (is_type_unit u.1)) all (i, own) there (ap not e))

  -- at the number of a unit stands the unit
  there_is : (i : ℕ) → i < length units → (get_or (index_order units) (index_number units i) (0, first)).0 ≡ i
  there_is i lt =
      let order : List (ℕ × UnitHeader) = index_order units in
      let c = in_order i lt in
      let some : list_any (has_number i) order ≡ true = list_any_at (has_number i) order c.0 (i, get_or units i first) c.1 (ap (has_number i) c.2 ∙ eq-eqb i i refl) in
      let within = position_within (has_number i) order some in
      let number : index_number units i ≡ position_or_len (has_number i) order = ap (λ (o : Option ℕ). unwrap_or o 0) (position_is (has_number i) order within) in
      ap (λ (k : ℕ). (get_or order k (0, first)).0) number ∙ eqb-true (get_or order (position_or_len (has_number i) order) (0, first)).0 i (passes_at_first (has_number i) order (0, first) within)

pub numbers_apart : NumbersAreApart
numbers_apart [] i j li lj same = absurd (omega (arith, li))
numbers_apart (u ∷ us) i j li lj same = sym (there_is (u ∷ us) u i li) ∙ ap (λ (k : ℕ). (get_or (index_order (u ∷ us)) k (0, u)).0) same ∙ there_is (u ∷ us) u j lj

-- ---- elements

same_kind : (k l : Kind) → kind_number k ≡ kind_number l → k ≡ l
same_kind TypeName TypeName e = refl
same_kind TypeName Variable e = absurd (omega (arith, e))
same_kind TypeName Function e = absurd (omega (arith, e))
same_kind TypeName Other e = absurd (omega (arith, e))
same_kind Variable TypeName e = absurd (omega (arith, e))
same_kind Variable Variable e = refl
same_kind Variable Function e = absurd (omega (arith, e))
same_kind Variable Other e = absurd (omega (arith, e))
same_kind Function TypeName e = absurd (omega (arith, e))
same_kind Function Variable e = absurd (omega (arith, e))
same_kind Function Function e = refl
same_kind Function Other e = absurd (omega (arith, e))
same_kind Other TypeName e = absurd (omega (arith, e))
same_kind Other Variable e = absurd (omega (arith, e))
same_kind Other Function e = absurd (omega (arith, e))
same_kind Other Other e = refl

-- the three parts of two numbers that are the same
record SameParts (m n k l : ℕ) (a b : Bool) : Type 0 where
  number : m ≡ n
  kind : k ≡ l
  flag : a ≡ b

same_parts : (m n k l : ℕ) (a b : Bool) → m < 2 ^ 28 → n < 2 ^ 28 → k < 8 → l < 8 → m + k * 2 ^ 28 + cond a (2 ^ 31) 0 ≡ n + l * 2 ^ 28 + cond b (2 ^ 31) 0 → SameParts m n k l a b
same_parts m n k l true true lm ln lk ll e = record { number = omega (arith, lm, ln, e); kind = omega (arith, lm, ln, e); flag = refl }
same_parts m n k l true false lm ln lk ll e = absurd (omega (arith, lm, ln, lk, ll, e))
same_parts m n k l false true lm ln lk ll e = absurd (omega (arith, lm, ln, lk, ll, e))
same_parts m n k l false false lm ln lk ll e = record { number = omega (arith, lm, ln, e); kind = omega (arith, lm, ln, e); flag = refl }

pub elements_apart : ElementsAreApart
elements_apart units d e few ld le same =
    let m = number_below units d.unit (omega (arith, ld)) in
    let n = number_below units e.unit (omega (arith, le)) in
    let p = same_parts (index_number units d.unit) (index_number units e.unit) (kind_number d.kind) (kind_number e.kind) d.local e.local (omega (arith, m, few)) (omega (arith, n, few)) (omega (arith, kind_low d.kind)) (omega (arith, kind_low e.kind)) same in
    record { unit = numbers_apart units d.unit e.unit ld le p.number; kind = same_kind d.kind e.kind p.kind; local = p.flag }
