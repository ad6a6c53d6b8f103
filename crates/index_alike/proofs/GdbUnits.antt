-- The numbers of units in an index are below the count of its units.
use Rattle.std.proofs.Common.{◌≡◌, ℕ, suc, ◌+◌, ◌*◌, ◌<◌, ◌≤◌, Bool, true, false, not, cond, eqb, List, [], ◌∷◌, ◌++◌, length, position, Option, Some, None, unwrap_or, refl, ap, ◌∙◌, arith}
use Rattle.std.specs.Prelude.{filter}
use Rattle.std.specs.List.{enumerate_from}
use Rattle.std.proofs.lemmas.List.{length-append}
use Rattle.index_model.specs.declared.unit.Unit.{Unit as UnitHeader}
use Rattle.index_model.specs.Layout.{u64_bytes}
use Rattle.index_model.specs.GdbIndex.{is_type_unit, index_order, index_number, start_in_section, cu_list, types_list}
use Rattle.index_model.specs.GdbAreas.{Areas, unit_count}
use Rattle.index_model.proofs.IndexSizes.{size_8}
use Rattle.index_alike.proofs.GdbPlaces.{length_is}
use Rattle.index_alike.proofs.GdbPositions.{position_below}

-- ---- the lists of units

abbrev plain : UnitHeader → Bool
plain u = not (is_type_unit u)

plain_or_type : (units : List UnitHeader) → length (filter plain units) + length (filter is_type_unit units) ≡ length units
plain_or_type [] = refl
plain_or_type (u ∷ us) = elim (is_type_unit u) as (λ b. length (cond (not b) (u ∷ filter plain us) (filter plain us)) + length (cond b (u ∷ filter is_type_unit us) (filter is_type_unit us)) ≡ suc (length us)) [
  | true ↦ omega (arith, plain_or_type us)
  | false ↦ omega (arith, plain_or_type us)
]

pub cus_size : (units : List UnitHeader) → length (cu_list units) ≡ 16 * length (filter plain units)
cus_size units = length_is (λ u. u64_bytes (start_in_section units u) ++ u64_bytes u.length) 16 (λ u. length-append (u64_bytes (start_in_section units u)) (u64_bytes u.length) ∙ (λ i. size_8 (start_in_section units u) i + size_8 u.length i)) (filter plain units)

pub types_size : (units : List UnitHeader) → length (types_list units) ≡ 24 * length (filter is_type_unit units)
types_size units = length_is (λ u. u64_bytes (start_in_section units u) ++ u64_bytes u.type_offset ++ u64_bytes u.signature) 24 size (filter is_type_unit units)
  where
    size : (u : UnitHeader) → length (u64_bytes (start_in_section units u) ++ u64_bytes u.type_offset ++ u64_bytes u.signature) ≡ 24
    size u =
        length-append (u64_bytes (start_in_section units u) ++ u64_bytes u.type_offset) (u64_bytes u.signature)
        ∙ (λ i. length-append (u64_bytes (start_in_section units u)) (u64_bytes u.type_offset) i + size_8 u.signature i)
        ∙ (λ i. size_8 (start_in_section units u) i + size_8 u.type_offset i + 8)

pub few_units : (units : List UnitHeader) → 16 * length units ≤ length (cu_list units) + length (types_list units)
few_units units = omega (arith, cus_size units, types_size units, plain_or_type units)

-- both lists together have each unit once
pub count_is : (units : List UnitHeader) (a : Areas) → a.cus.rest ≡ cu_list units → a.types.rest ≡ types_list units → unit_count a ≡ length units
count_is units a cus types = omega (arith, ap length cus, ap length types, cus_size units, types_size units, plain_or_type units)

-- ---- numbers

numbered_size : (p : UnitHeader → Bool) (n : ℕ) (units : List UnitHeader) → length (filter (λ u. p u.1) (enumerate_from n units)) ≡ length (filter p units)
numbered_size p n [] = refl
numbered_size p n (u ∷ us) = elim (p u) as (λ b. length (cond b ((n, u) ∷ filter (λ u. p u.1) (enumerate_from (n + 1) us)) (filter (λ u. p u.1) (enumerate_from (n + 1) us))) ≡ length (cond b (u ∷ filter p us) (filter p us))) [
  | true ↦ ap suc (numbered_size p (n + 1) us)
  | false ↦ numbered_size p (n + 1) us
]

order_size : (units : List UnitHeader) → length (index_order units) ≡ length units
order_size units =
    length-append (filter (λ u. not (is_type_unit u.1)) (enumerate_from 0 units)) (filter (λ u. is_type_unit u.1) (enumerate_from 0 units))
    ∙ (λ i. numbered_size plain 0 units i + numbered_size is_type_unit 0 units i) ∙ plain_or_type units

-- where there are units, the number of one of them is below their count
pub number_below : (units : List UnitHeader) (unit : ℕ) → 0 < length units → index_number units unit < length units
number_below units unit some = by (position (λ u. eqb u.0 unit) (index_order units)) refl
  where
    by : (o : Option ℕ) → position (λ u. eqb u.0 unit) (index_order units) ≡ o → unwrap_or o 0 < length units
    by None e = some
    by (Some k) e = omega (arith, position_below (λ u. eqb u.0 unit) (index_order units) k e, order_size units)
