-- The numbers of units in the index.
use Rattle.std.proofs.Common.{◌≡◌, ℕ, zero, suc, ◌+◌, ◌<◌, ◌≤◌, Bool, true, false, not, cond, eqb, List, [], ◌∷◌, ◌++◌, length, get_or, take, map, position, Option, Some, None, unwrap_or, refl, sym, ap, ◌∙◌, arith}
use Rattle.std.specs.Prelude.{filter, option_map, count_by, All}
use Rattle.std.specs.Option.{option_or}
use Rattle.std.specs.List.{enumerate_from}
use Rattle.std.proofs.lemmas.Bool.Decides.{nat_tests}
use Rattle.std.proofs.lemmas.List.{get_or_default}
use Rattle.std.proofs.lemmas.List.Sums.{sum_by-cons, sum_by-take-le}
use Rattle.std.proofs.lemmas.List.FromFn.{map-range_with_len_more, length-map-range_with_len, get_or-map-range_with_len}
use Rattle.index_model.specs.Layout.{below}
use Rattle.index_model.specs.declared.unit.Unit.{Unit as UnitHeader}
use Rattle.index_model.specs.GdbIndex.{index_number, is_type_unit}
use Rattle.gdbindex_write.proofs.PositionLaws.{position_cons, position_append}

other_number : (i m : ℕ) → i < m → eqb m i ≡ false
other_number i m lt = grind (arith, nat_tests)

own_number : (i m : ℕ) → i ≡ m → eqb m i ≡ true
own_number i m e = grind (arith, nat_tests)

module _ (P : UnitHeader → Bool) where
  abbrev passes : ℕ × UnitHeader → Bool
  passes u = P u.1

  abbrev at : ℕ → ℕ × UnitHeader → Bool
  at i u = eqb u.0 i

  -- the units from a number on that pass
  abbrev from : ℕ → List UnitHeader → List (ℕ × UnitHeader)
  from m xs = filter passes (enumerate_from m xs)

  none_at : (i m : ℕ) (xs : List UnitHeader) → i < m → position (at i) (from m xs) ≡ None
  none_at i m [] lt = refl
  none_at i m (x ∷ xs) lt = by (P x) refl (none_at i (m + 1) xs (omega arith))
    where
      by : (b : Bool) → P x ≡ b → position (at i) (from (m + 1) xs) ≡ None → position (at i) (from m (x ∷ xs)) ≡ None
      by true e rest = rw (e, position_cons (at i) (m, x) (from (m + 1) xs), other_number i m lt, rest) refl
      by false e rest = rw e rest

  count_yes : (x : UnitHeader) (xs : List UnitHeader) → P x ≡ true → count_by P (x ∷ xs) ≡ suc (count_by P xs)
  count_yes x xs e = sum_by-cons (λ (u : UnitHeader). cond (P u) 1 0) x xs ∙ rw e (omega arith)

  count_no : (x : UnitHeader) (xs : List UnitHeader) → P x ≡ false → count_by P (x ∷ xs) ≡ count_by P xs
  count_no x xs e = sum_by-cons (λ (u : UnitHeader). cond (P u) 1 0) x xs ∙ rw e (omega arith)

  -- a unit that passes stands behind those before it that pass
  pub place_at : (i m k : ℕ) (xs : List UnitHeader) (d : UnitHeader) → k < length xs → i ≡ m + k → position (at i) (from m xs) ≡ cond (P (get_or xs k d)) (Some (count_by P (take k xs))) None
  place_at i m k [] d lt e = absurd (omega arith)
  place_at i m zero (x ∷ xs) d lt e = by (P x) refl
    where
      by : (b : Bool) → P x ≡ b → position (at i) (from m (x ∷ xs)) ≡ cond b (Some 0) None
      by true f = rw (f, position_cons (at i) (m, x) (from (m + 1) xs), own_number i m (omega (arith, e))) refl
      by false f = rw f (none_at i (m + 1) xs (omega (arith, e)))
  place_at i m (suc k) (x ∷ xs) d lt e = by (P x) refl (place_at i (m + 1) k xs d (omega arith) (omega (arith, e)))
    where
      other : eqb m i ≡ false
      other = grind (arith, nat_tests)

      lifted : (b : Bool) → option_map suc (cond b (Some (count_by P (take k xs))) None) ≡ cond b (Some (suc (count_by P (take k xs)))) None
      lifted true = refl
      lifted false = refl

      by : (b : Bool) → P x ≡ b → position (at i) (from (m + 1) xs) ≡ cond (P (get_or xs k d)) (Some (count_by P (take k xs))) None → position (at i) (from m (x ∷ xs)) ≡ cond (P (get_or xs k d)) (Some (count_by P (x ∷ take k xs))) None
      by true f rest = rw (f, position_cons (at i) (m, x) (from (m + 1) xs), other, rest, count_yes x (take k xs) f) (lifted (P (get_or xs k d)))
      by false f rest = rw (f, count_no x (take k xs) f) rest

  pub length_from : (m : ℕ) (xs : List UnitHeader) → length (from m xs) ≡ count_by P xs
  length_from m [] = refl
  length_from m (x ∷ xs) = by (P x) refl (length_from (m + 1) xs)
    where
      by : (b : Bool) → P x ≡ b → length (from (m + 1) xs) ≡ count_by P xs → length (from m (x ∷ xs)) ≡ count_by P (x ∷ xs)
      by true e rest = ap (λ (b : Bool). length (cond b ((m, x) ∷ from (m + 1) xs) (from (m + 1) xs))) e ∙ ap suc rest ∙ sym (count_yes x xs e)
      by false e rest = ap (λ (b : Bool). length (cond b ((m, x) ∷ from (m + 1) xs) (from (m + 1) xs))) e ∙ rest ∙ sym (count_no x xs e)

abbrev pub is_plain : UnitHeader → Bool
is_plain u = not (is_type_unit u)

module _ (units : List UnitHeader) (i : ℕ) (u : UnitHeader) (lt : i < length units) (is : u ≡ get_or units i u) where
  number_is : index_number units i ≡ unwrap_or (option_or (cond (is_plain (get_or units i u)) (Some (count_by is_plain (take i units))) None) (option_map (λ j. count_by is_plain units + j) (cond (is_type_unit (get_or units i u)) (Some (count_by is_type_unit (take i units))) None))) 0
  number_is =
      let here : i ≡ 0 + i = omega arith in
      let all = position_append (λ (v : ℕ × UnitHeader). eqb v.0 i) (from is_plain 0 units) (from is_type_unit 0 units) in
      let first = place_at is_plain i 0 i units u lt here in
      let second = place_at is_type_unit i 0 i units u lt here in
      ap (λ (o : Option ℕ). unwrap_or o 0) (all ∙ (λ j. option_or (first j) (option_map (λ (k : ℕ). length_from is_plain 0 units j + k) (second j))))

  pub number_of_type : is_type_unit u ≡ true → index_number units i ≡ count_by is_plain units + count_by is_type_unit (take i units)
  number_of_type e = let f : is_type_unit (get_or units i u) ≡ true = ap is_type_unit (sym is) ∙ e in rw (number_is, f) refl

  pub number_of_plain : is_type_unit u ≡ false → index_number units i ≡ count_by is_plain (take i units)
  number_of_plain e = let f : is_type_unit (get_or units i u) ≡ false = ap is_type_unit (sym is) ∙ e in rw (number_is, f) refl

-- one number more
pub numbers_more : (units : List UnitHeader) (i n : ℕ) → index_number units i ≡ n → map (index_number units) (below i) ++ n ∷ [] ≡ map (index_number units) (below (i + 1))
numbers_more units i n e = ap (λ (k : ℕ). map (index_number units) (below i) ++ k ∷ []) (sym e) ∙ sym (map-range_with_len_more (index_number units) 0 i i (omega arith))

-- ---- units of both sorts

pub both_counts : (units : List UnitHeader) → count_by (λ u. not (is_type_unit u)) units + count_by is_type_unit units ≡ length units
both_counts [] = refl
both_counts (u ∷ us) = by (is_type_unit u) refl (both_counts us)
  where
    by : (b : Bool) → is_type_unit u ≡ b → count_by (λ u. not (is_type_unit u)) us + count_by is_type_unit us ≡ length us → count_by (λ u. not (is_type_unit u)) (u ∷ us) + count_by is_type_unit (u ∷ us) ≡ length (u ∷ us)
    by b e rest = rw (sum_by-cons (λ (u : UnitHeader). cond (not (is_type_unit u)) 1 0) u us, sum_by-cons (λ (u : UnitHeader). cond (is_type_unit u) 1 0) u us, e) (one b rest)
      where
        one : (b : Bool) → count_by (λ u. not (is_type_unit u)) us + count_by is_type_unit us ≡ length us → cond (not b) 1 0 + count_by (λ u. not (is_type_unit u)) us + (cond b 1 0 + count_by is_type_unit us) ≡ suc (length us)
        one true rest = omega (arith, rest)
        one false rest = omega (arith, rest)

-- no unit has a number beyond them
number_le : (units : List UnitHeader) (i : ℕ) (u : UnitHeader) → i < length units → u ≡ get_or units i u → index_number units i ≤ length units
number_le units i u lt is = by (is_type_unit u) refl
  where
    by : (b : Bool) → is_type_unit u ≡ b → index_number units i ≤ length units
    by true e = omega (arith, number_of_type units i u lt is e, both_counts units, sum_by-take-le (λ (v : UnitHeader). cond (is_type_unit v) 1 0) units i)
    by false e = omega (arith, number_of_plain units i u lt is e, both_counts units, sum_by-take-le (λ (v : UnitHeader). cond (is_plain v) 1 0) units i)

pub numbers_small : (units : List UnitHeader) → length units ≤ 16777215 → All (λ n. n < 16777216) (map (index_number units) (below (length units)))
numbers_small [] few = λ k d lt. absurd (omega (arith, lt))
numbers_small (u ∷ us) few = λ k d lt.
    let units : List UnitHeader = u ∷ us in
    let within : k < length units = omega (arith, lt, length-map-range_with_len (index_number units) 0 (length units)) in
    let at : get_or (map (index_number units) (below (length units))) k d ≡ index_number units k = get_or-map-range_with_len (index_number units) 0 (length units) k k d within (omega arith) in
    let x : UnitHeader = get_or units k u in
    let own : x ≡ get_or units k x = get_or_default units k u x within in
    omega (arith, at, number_le units k x within own)
