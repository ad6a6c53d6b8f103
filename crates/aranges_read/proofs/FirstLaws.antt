-- The first difference that is computed is the least address with two answers, and there is one such answer.
use Rattle.std.proofs.Common.{◌≡◌, ℕ, suc, ◌<◌, ◌≤◌, min, Bool, true, false, not, List, ◌++◌, filter, Option, Some, None, refl, sym, ap, subst, ◌∙◌, arith, inl, inr}
use Rattle.std.specs.Prelude.{◌≢◌, Contains, option_map}
use Rattle.std.specs.List.{reduce}
use Rattle.std.proofs.lemmas.Bool.{cases_lt, eqb-true, eq-eqb}
use Rattle.std.proofs.lemmas.List.Elements.{Contains-append_left, Contains-append_right}
use mathlib.Core.Logic.{◌⊎◌}
use Rattle.common_laws.proofs.Members.{of_filter, to_filter}
use Rattle.common_laws.proofs.Booleans.{not_both_ways}
use Rattle.index_model.specs.declared.range.UnitRange.{UnitRange}
use Rattle.index_model.specs.Pieces.{edges_of}
use Rattle.index_model.specs.Ranges.{unit_at}
use Rattle.reach_model.specs.declared.difference.Difference.{Difference}
use Rattle.reach_model.specs.AddressSets.{AddressSet, aranges_unit_at}
use Rattle.reach_model.specs.Differences.{is_same, difference_among, first_difference, IsFirstDifference}
use Rattle.aranges_read.specs.Laws.{IsFirst, FirstDifferenceIsFirst}
use Rattle.aranges_read.specs.Tables.{HasTheUnitsOf}
use Rattle.aranges_read.proofs.LeastUnits.{IsLeastOf, reduce_least}
use Rattle.aranges_read.proofs.Changes.{ChangesOnlyAt, agree_below, wider, unit_changes, set_unit_changes, edges_in}

-- ---- one answer or two

same_is : (x y : Option ℕ) → is_same x y ≡ true → x ≡ y
same_is None None e = refl
same_is None (Some v) e = absurd cc
same_is (Some u) None e = absurd cc
same_is (Some u) (Some v) e = ap (λ (n : ℕ). Some n) (eqb-true u v e)

is_same_self : (x : Option ℕ) → is_same x x ≡ true
is_same_self None = refl
is_same_self (Some u) = eq-eqb u u refl

others : (x y : Option ℕ) → not (is_same x y) ≡ true → x ≢ y
others x y e same = not_both_ways (is_same x y) e (subst (λ (z : Option ℕ). is_same x z ≡ true) same (is_same_self x))

-- ---- the least address with two answers

module _ (es : List ℕ) (f g : ℕ → Option ℕ) where
  abbrev differs : ℕ → Bool
  differs a = not (is_same (f a) (g a))

  abbrev at : ℕ → Difference
  at a = record { address = a; table = f a; own = g a }

  agrees : (e : ℕ) → Contains es e → (Contains (filter differs es) e → ⊥) → f e ≡ g e
  agrees e c none = by (is_same (f e) (g e)) refl
    where
      by : (b : Bool) → is_same (f e) (g e) ≡ b → f e ≡ g e
      by true is = same_is (f e) (g e) is
      by false is = absurd (none (to_filter differs es e c (ap not is)))

  module _ (changes_f : ChangesOnlyAt es f) (changes_g : ChangesOnlyAt es g) where
    is_first_at : (o : Option ℕ) → IsLeastOf (Contains (filter differs es)) o → IsFirst f g (option_map at o)
    is_first_at None least = λ a. agree_below es f g changes_f changes_g (suc a) a (λ e c lt. agrees e c (least e)) (omega arith)
    is_first_at (Some m) least = record {
      of_table = refl;
      of_own = refl;
      differ = others (f m) (g m) (of_filter differs es m least.0).1;
      before = λ a lt. agree_below es f g changes_f changes_g m a (λ e c less. agrees e c (λ l. let le = least.1 e l in absurd (omega (arith, le, less)))) lt;
    }

    is_first : IsFirst f g (difference_among f g es)
    unfolding difference_among
    is_first = is_first_at (reduce min (filter differs es)) (reduce_least (filter differs es))

pub first_difference_first : FirstDifferenceIsFirst
unfolding first_difference
first_difference_first sets own =
    let es = edges_in sets ++ edges_of own in
    is_first es (aranges_unit_at sets) (unit_at own)
    (wider (edges_in sets) es (aranges_unit_at sets) (λ e c. Contains-append_left (edges_in sets) (edges_of own) e c) (set_unit_changes sets))
    (wider (edges_of own) es (unit_at own) (λ e c. Contains-append_right (edges_in sets) (edges_of own) e c) (unit_changes own))

-- ---- there is one such answer

one_first : (f g : ℕ → Option ℕ) (x y : Option Difference) → IsFirst f g x → IsFirst f g y → x ≡ y
one_first f g None None p q = refl
one_first f g None (Some e) p q = absurd (q.differ (sym q.of_table ∙ p e.address ∙ q.of_own))
one_first f g (Some d) None p q = absurd (p.differ (sym p.of_table ∙ q d.address ∙ p.of_own))
one_first f g (Some d) (Some e) p q = by (cases_lt d.address e.address) (cases_lt e.address d.address)
  where
    by : (d.address < e.address) ⊎ (e.address ≤ d.address) → (e.address < d.address) ⊎ (d.address ≤ e.address) → Some d ≡ Some e
    by (inl lt) h = absurd (p.differ (sym p.of_table ∙ q.before d.address lt ∙ p.of_own))
    by (inr ge) (inl lt) = absurd (q.differ (sym q.of_table ∙ p.before e.address lt ∙ q.of_own))
    by (inr ge) (inr le) =
        let address : d.address ≡ e.address = omega (arith, ge, le) in
        let table : d.table ≡ e.table = sym p.of_table ∙ ap f address ∙ q.of_table in
        let own : d.own ≡ e.own = sym p.of_own ∙ ap g address ∙ q.of_own in
        λ i. Some (record { address = address i; table = table i; own = own i })

-- what a comparison of pieces finds is the first difference of the sets that they stand for
pub is_that_of_sets : (table own : List UnitRange) (found : Option Difference) → (found ≡ None → (a : ℕ) → unit_at table a ≡ unit_at own a) → ((d : Difference) → found ≡ Some d → IsFirstDifference table own d) → (sets : List AddressSet) → HasTheUnitsOf table sets → found ≡ first_difference sets own
is_that_of_sets table own found same first sets has = one_first (aranges_unit_at sets) (unit_at own) found (first_difference sets own) (by found refl) (first_difference_first sets own)
  where
    by : (o : Option Difference) → found ≡ o → IsFirst (aranges_unit_at sets) (unit_at own) o
    by None is = λ a. sym (has a) ∙ same is a
    by (Some d) is =
        let f = first d is in
        record { of_table = sym (has d.address) ∙ f.of_table; of_own = f.of_own; differ = f.differ; before = λ a lt. sym (has a) ∙ f.before a lt }
