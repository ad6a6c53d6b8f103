-- Among ranges that are sorted by their units the first that contains an address has the least unit.
use Rattle.std.proofs.Common.{◌≡◌, ℕ, suc, ◌<◌, ◌≤◌, min, Bool, true, false, cond, ◌||◌, List, [], ◌∷◌, find, map, filter, Option, Some, None, refl, sym, ap, subst, ◌∙◌, arith, inl, inr, ⊎_elim}
use Rattle.std.specs.Prelude.{Contains, option_map, fold}
use Rattle.std.specs.List.{list_any, reduce}
use Rattle.std.specs.List.Sorted.{IsNonDecreasingBy, IsPermutation}
use Rattle.std.proofs.Math.Nat.{min-eq_left, min-eq_right, min-le_left, min-le_right}
use Rattle.std.proofs.lemmas.Bool.{cases_lt, false≢true}
use Rattle.std.proofs.lemmas.List.Sorted.{Contains-permutation, IsPermutation-sym}
use mathlib.Core.Logic.{◌⊎◌}
use Rattle.common_laws.proofs.Members.{contains_here, contains_later, contains_cases, of_map, to_map, of_filter, to_filter, of_flat_map, to_flat_map}
use Rattle.index_model.specs.declared.range.Range.{Range}
use Rattle.index_model.specs.declared.range.UnitRange.{UnitRange}
use Rattle.index_model.specs.Ranges.{contains, unit_at}
use Rattle.reach_model.specs.AddressSets.{AddressSet, has_address, aranges_unit_at}
use Rattle.aranges_read.specs.Sets.{of_unit, ranges_in}

-- the least number that has the property; none, where no number has it
abbrev pub IsLeastOf : (ℕ → Type 0) → Option ℕ → Type 0
IsLeastOf P None = (n : ℕ) → P n → ⊥
IsLeastOf P (Some m) = P m × ((n : ℕ) → P n → m ≤ n)

one_least : (P : ℕ → Type 0) (x y : Option ℕ) → IsLeastOf P x → IsLeastOf P y → x ≡ y
one_least P None None f g = refl
one_least P None (Some n) f g = absurd (f n g.0)
one_least P (Some m) None f g = absurd (g m f.0)
one_least P (Some m) (Some n) f g = ap (λ (k : ℕ). Some k) (let le = f.1 n g.0 in let ge = g.1 m f.0 in let e : m ≡ n = omega (arith, le, ge) in e)

same_least : (P Q : ℕ → Type 0) → ((n : ℕ) → P n → Q n) → ((n : ℕ) → Q n → P n) → (x : Option ℕ) → IsLeastOf P x → IsLeastOf Q x
same_least P Q to of None f = λ n q. f n (of n q)
same_least P Q to of (Some m) f = (to m f.0, λ n q. f.1 n (of n q))

-- ---- the least of a list

abbrev Least : List ℕ → ℕ → Type 0
Least xs m = Contains xs m × ((n : ℕ) → Contains xs n → m ≤ n)

fold_least : (x : ℕ) (xs : List ℕ) → Least (x ∷ xs) (fold min x xs)
fold_least x [] = (contains_here x [], λ n c. ⊎_elim (λ (e : x ≡ n). omega (arith, e)) (λ (l : Contains [] n). absurd (omega (arith, l.1))) (contains_cases x [] n c))
fold_least x (y ∷ xs) =
    let r = fold_least (min x y) xs in
    let low : fold min (min x y) xs ≤ min x y = r.1 (min x y) (contains_here (min x y) xs) in (
      ⊎_elim
          (λ (e : min x y ≡ fold min (min x y) xs). subst (Contains (x ∷ y ∷ xs)) e (one_of (cases_le x y)))
          (λ (l : Contains xs (fold min (min x y) xs)). contains_later x (y ∷ xs) _ (contains_later y xs _ l))
          (contains_cases (min x y) xs (fold min (min x y) xs) r.0),
      λ n c. ⊎_elim
          (λ (e : x ≡ n). omega (arith, low, min-le_left x y, e))
          (λ (l : Contains (y ∷ xs) n). ⊎_elim (λ (e : y ≡ n). omega (arith, low, min-le_right x y, e)) (λ (k : Contains xs n). r.1 n (contains_later (min x y) xs n k)) (contains_cases y xs n l))
          (contains_cases x (y ∷ xs) n c),
    )
  where
    cases_le : (a b : ℕ) → (min a b ≡ a) ⊎ (min a b ≡ b)
    cases_le a b = ⊎_elim (λ (l : a < b). inl (min-eq_left (let le : a ≤ b = omega (arith, l) in le))) (λ (g : b ≤ a). inr (min-eq_right g)) (cases_lt a b)

    one_of : (min x y ≡ x) ⊎ (min x y ≡ y) → Contains (x ∷ y ∷ xs) (min x y)
    one_of (inl e) = subst (Contains (x ∷ y ∷ xs)) (sym e) (contains_here x (y ∷ xs))
    one_of (inr e) = subst (Contains (x ∷ y ∷ xs)) (sym e) (contains_later x (y ∷ xs) y (contains_here y xs))

pub reduce_least : (xs : List ℕ) → IsLeastOf (Contains xs) (reduce min xs)
reduce_least [] = λ n c. omega (arith, c.1)
reduce_least (x ∷ xs) = fold_least x xs

-- ---- the units that have an address

abbrev made : ℕ → Range → UnitRange
made n r = record { unit = n; range = r }

module _ (a : ℕ) where
  -- the unit has a range that contains the address
  abbrev HasUnit : List UnitRange → ℕ → Type 0
  HasUnit us n = (r : UnitRange) × Contains us r × (r.unit ≡ n) × (contains a r.range ≡ true)

  head_least : (u : UnitRange) (us : List UnitRange) → IsNonDecreasingBy (λ (v : UnitRange). v.unit) (u ∷ us) → (v : UnitRange) → Contains us v → u.unit ≤ v.unit
  head_least u us up v c = subst (λ (w : UnitRange). u.unit ≤ w.unit) c.2 (up 0 (suc c.0) v (omega arith) (omega (arith, c.1)))

  first_least : (us : List UnitRange) → IsNonDecreasingBy (λ (v : UnitRange). v.unit) us → IsLeastOf (HasUnit us) (option_map (λ u. u.unit) (find (λ u. contains a u.range) us))
  first_least [] up = λ n h. absurd (omega (arith, h.1.1))
  first_least (u ∷ us) up = by (contains a u.range) refl (first_least us (λ i j d le lt. up (suc i) (suc j) d (omega (arith, le)) (omega (arith, lt))))
    where
      not_here : contains a u.range ≡ false → (n : ℕ) → HasUnit (u ∷ us) n → HasUnit us n
      not_here off n h = (h.0, ⊎_elim (λ (e : u ≡ h.0). absurd (false≢true (sym off ∙ ap (λ (w : UnitRange). contains a w.range) e ∙ h.3))) (λ (l : Contains us h.0). l) (contains_cases u us h.0 h.1), h.2, h.3)

      later : (n : ℕ) → HasUnit us n → HasUnit (u ∷ us) n
      later n h = (h.0, contains_later u us h.0 h.1, h.2, h.3)

      by : (b : Bool) → contains a u.range ≡ b → IsLeastOf (HasUnit us) (option_map (λ u. u.unit) (find (λ u. contains a u.range) us)) → IsLeastOf (HasUnit (u ∷ us)) (option_map (λ u. u.unit) (cond b (Some u) (find (λ u. contains a u.range) us)))
      by true on rest = ((u, contains_here u us, refl, on), λ n h. ⊎_elim (λ (e : u ≡ h.0). omega (arith, ap (λ (w : UnitRange). w.unit) e, h.2)) (λ (l : Contains us h.0). let le = head_least u us up h.0 l in omega (arith, le, h.2)) (contains_cases u us h.0 h.1))
      by false off rest = same_least (HasUnit us) (HasUnit (u ∷ us)) later (not_here off) (option_map (λ u. u.unit) (find (λ u. contains a u.range) us)) rest

  -- ---- the sets that have it

  any_of : (rs : List Range) → list_any (contains a) rs ≡ true → (r : Range) × Contains rs r × (contains a r ≡ true)
  any_of [] is = absurd (false≢true is)
  any_of (r ∷ rs) is = by (contains a r) refl is (any_of rs)
    where
      by : (b : Bool) → contains a r ≡ b → (b || list_any (contains a) rs) ≡ true → (list_any (contains a) rs ≡ true → (q : Range) × Contains rs q × (contains a q ≡ true)) → (q : Range) × Contains (r ∷ rs) q × (contains a q ≡ true)
      by true e h rest = (r, contains_here r rs, e)
      by false e h rest = let q = rest h in (q.0, contains_later r rs q.0 q.1, q.2)

  to_any : (rs : List Range) (r : Range) → Contains rs r → contains a r ≡ true → list_any (contains a) rs ≡ true
  to_any [] r c on = absurd (omega (arith, c.1))
  to_any (q ∷ rs) r c on = by (contains a q) refl (to_any rs r)
    where
      by : (b : Bool) → contains a q ≡ b → (Contains rs r → contains a r ≡ true → list_any (contains a) rs ≡ true) → (b || list_any (contains a) rs) ≡ true
      by true e rest = refl
      by false e rest = ⊎_elim (λ (same : q ≡ r). absurd (false≢true (sym e ∙ ap (contains a) same ∙ on))) (λ (l : Contains rs r). rest l on) (contains_cases q rs r c)

  abbrev with_it : List AddressSet → List ℕ
  with_it sets = map (λ s. s.unit) (filter (has_address a) sets)

  -- a unit of such a set has a range that contains the address
  in_ranges : (sets : List AddressSet) (n : ℕ) → Contains (with_it sets) n → HasUnit (ranges_in sets) n
  in_ranges sets n c =
      let m = of_map (λ (s : AddressSet). s.unit) (filter (has_address a) sets) n c in
      let f = of_filter (has_address a) sets m.0 m.1 in
      let r = any_of m.0.ranges f.1 in
      let u : UnitRange = record { unit = m.0.unit; range = r.0 } in
      (u, to_flat_map (λ (s : AddressSet). of_unit s.unit s.ranges) sets m.0 u f.0 (to_map (λ (x : Range). made m.0.unit x) m.0.ranges r.0 r.1), m.2, r.2)

  in_sets : (sets : List AddressSet) (n : ℕ) → HasUnit (ranges_in sets) n → Contains (with_it sets) n
  in_sets sets n h =
      let s = of_flat_map (λ (s : AddressSet). of_unit s.unit s.ranges) sets h.0 h.1 in
      let r = of_map (λ (x : Range). made s.0.unit x) s.0.ranges h.0 s.2 in
      let on : contains a r.0 ≡ true = ap (λ (u : UnitRange). contains a u.range) r.2 ∙ h.3 in
      let passes = to_filter (has_address a) sets s.0 s.1 (to_any s.0.ranges r.0 r.1 on) in
      subst (Contains (with_it sets)) (ap (λ (u : UnitRange). u.unit) r.2 ∙ h.2) (to_map (λ (s : AddressSet). s.unit) (filter (has_address a) sets) s.0 passes)

  -- ---- both are the least

  -- a range of the sorted ones is one of all
  moved : (xs ys : List UnitRange) → IsPermutation xs ys → (n : ℕ) → HasUnit xs n → HasUnit ys n
  moved xs ys same n h = (h.0, Contains-permutation xs ys h.0 same h.1, h.2, h.3)

  pub least_of_sets : (sets : List AddressSet) (sorted : List UnitRange) → IsPermutation (ranges_in sets) sorted → IsNonDecreasingBy (λ (v : UnitRange). v.unit) sorted → unit_at sorted a ≡ aranges_unit_at sets a
  unfolding unit_at aranges_unit_at
  least_of_sets sets sorted same up =
      let x = option_map (λ u. u.unit) (find (λ u. contains a u.range) sorted) in
      let y = reduce min (with_it sets) in
      let of_x = same_least (HasUnit sorted) (HasUnit (ranges_in sets)) (moved sorted (ranges_in sets) (IsPermutation-sym (ranges_in sets) sorted same)) (moved (ranges_in sets) sorted same) x (first_least sorted up) in
      let of_y = same_least (Contains (with_it sets)) (HasUnit (ranges_in sets)) (in_ranges sets) (in_sets sets) y (reduce_least (with_it sets)) in
      one_least (HasUnit (ranges_in sets)) x y of_x of_y
