-- The lists of units, unit by unit.
use Rattle.std.proofs.Common.{◌≡◌, ℕ, ◌+◌, ◌<◌, ◌≤◌, Bool, true, false, not, cond, List, [], ◌∷◌, ◌++◌, length, get_or, take, map, refl, sym, ap, ◌∙◌, zero-add, arith}
use Rattle.std.specs.Prelude.{filter, flat_map, sum_by, All}
use Rattle.std.proofs.lemmas.List.Elements.{All-head, All-tail}
use Rattle.std.proofs.lemmas.List.FromFn.{get_or-map-range_with_len}
use Rattle.std.proofs.lemmas.List.Sums.{sum_by-cons, sum_by_more_le_part}
use Rattle.index_model.specs.declared.range.UnitRange.{UnitRange}
use Rattle.index_model.specs.declared.unit.Unit.{Unit as UnitHeader}
use Rattle.index_model.specs.declared.unit.Part.TheVariants.{Info}
use Rattle.index_model.specs.declared.unit.UnitSort.TheVariants.{Compile}
use Rattle.index_model.specs.Units.{is_types}
use Rattle.index_model.specs.Layout.{below, u32_bytes, u64_bytes}
use Rattle.index_model.specs.GdbIndex.{address_area, cu_list, index_number, is_type_unit, start_in_section, types_list}
use Rattle.gdbindex_write.specs.Addresses.{piece_bytes}
use Rattle.gdbindex_write.specs.Units.{cu_bytes, info_part, types_bytes}
use Rattle.gdbindex_write.specs.Writable.{info_bytes, unit_bytes}

-- ---- filters

-- a part for each item that passes is a part or nothing for each item
pub parts_of : {X Y : Type 0} (p : X → Bool) (f : X → List Y) (xs : List X) → flat_map f (filter p xs) ≡ flat_map (λ x. cond (p x) (f x) []) xs
parts_of p f [] = refl
parts_of p f (x ∷ xs) = by (p x) (parts_of p f xs)
  where
    by : (b : Bool) → flat_map f (filter p xs) ≡ flat_map (λ x. cond (p x) (f x) []) xs → flat_map f (cond b (x ∷ filter p xs) (filter p xs)) ≡ cond b (f x) [] ++ flat_map (λ x. cond (p x) (f x) []) xs
    by true rest = ap (λ w. f x ++ w) rest
    by false rest = rest

-- ---- the lists

flipped : (b : Bool) (xs : List ℕ) → cond (not b) xs [] ≡ cond b [] xs
flipped true xs = refl
flipped false xs = refl

pub cu_list_is : (units : List UnitHeader) → flat_map (cu_bytes (info_bytes units)) units ≡ cu_list units
unfolding start_in_section
cu_list_is units = sym (parts_of (λ (u : UnitHeader). not (is_type_unit u)) (λ (u : UnitHeader). u64_bytes (start_in_section units u) ++ u64_bytes u.length) units
    ∙ (λ i. flat_map (λ (u : UnitHeader). flipped (is_type_unit u) (u64_bytes (start_in_section units u) ++ u64_bytes u.length) i) units))

pub types_list_is : (units : List UnitHeader) → flat_map (types_bytes (info_bytes units)) units ≡ types_list units
unfolding start_in_section
types_list_is units = sym (parts_of is_type_unit (λ (u : UnitHeader). u64_bytes (start_in_section units u) ++ u64_bytes u.type_offset ++ u64_bytes u.signature) units)

-- ---- the bytes of `.debug_info`

abbrev own : UnitHeader → ℕ
own u = u.length

pub info_is : (units : List UnitHeader) → sum_by info_part units ≡ info_bytes units
info_is [] = refl
info_is (u ∷ us) = by (is_types u.part) refl (info_is us)
  where
    by : (b : Bool) → is_types u.part ≡ b → sum_by info_part us ≡ info_bytes us → sum_by info_part (u ∷ us) ≡ info_bytes (u ∷ us)
    by true e rest = sum_by-cons info_part u us ∙ rw e (zero-add (sum_by info_part us) ∙ rest)
    by false e rest = sum_by-cons info_part u us ∙ rw e (ap (λ (n : ℕ). u.length + n) rest ∙ sym (sum_by-cons own u (filter (λ v. not (is_types v.part)) us)))

part_le : (u : UnitHeader) → info_part u ≤ u.length
part_le u = by (is_types u.part)
  where
    by : (b : Bool) → cond b 0 u.length ≤ u.length
    by true = omega arith
    by false = omega arith

pub info_fits : (units : List UnitHeader) (i : ℕ) (d : UnitHeader) → i < length units → sum_by info_part (take i units) + info_part (get_or units i d) ≤ unit_bytes units
info_fits units i d lt = omega (arith, sum_by_more_le_part info_part own units i d lt part_le, part_le (get_or units i d))

-- ---- addresses

pub area_is : (units : List UnitHeader) (numbers : List ℕ) (pieces : List UnitRange) → numbers ≡ map (index_number units) (below (length units)) → All (λ p. p.unit < length units) pieces → flat_map (piece_bytes numbers) pieces ≡ address_area units pieces
area_is units numbers [] is all = refl
area_is units numbers (p ∷ ps) is all =
    let lt : p.unit < length units = All-head (λ (q : UnitRange). q.unit < length units) p ps all in
    let number : get_or numbers p.unit 0 ≡ index_number units p.unit = ap (λ (w : List ℕ). get_or w p.unit 0) is ∙ get_or-map-range_with_len (index_number units) 0 (length units) p.unit p.unit 0 lt (omega arith) in
    let rest = area_is units numbers ps is (All-tail (λ (q : UnitRange). q.unit < length units) p ps all) in
    (λ i. (u64_bytes p.range.low ++ u64_bytes p.range.end ++ u32_bytes (number i)) ++ rest i)

-- the unit that stands for one past the end
abbrev pub no_unit : UnitHeader
no_unit = record { start = 0; part = Info; length = 0; version = 0; wide = false; sort = Compile; «abbrev» = 0; body = 0; signature = 0; type_offset = 0 }
