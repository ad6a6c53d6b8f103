-- The address area reads back as the pieces.
use Rattle.std.proofs.Common.{◌≡◌, ℕ, ◌+◌, ◌*◌, ◌%◌, ◌^◌, ◌<◌, true, false, ◌&&◌, leb, ltb, eqb, cond, List, [], ◌∷◌, ◌++◌, length, get_or, map, find, Some, Result, Ok, refl, ap, ◌∙◌, arith}
use Rattle.std.specs.Prelude.{option_map, All}
use Rattle.std.proofs.lemmas.Bool.{eq-eqb}
use Rattle.std.proofs.lemmas.List.{length-append}
use Rattle.ix_base.specs.declared.fault.Fault.{Fault}
use Rattle.ix_base.specs.Reading.{Input}
use Rattle.index_model.specs.declared.index_code.TheConstants.{GDB_UNIT_LIST, GDB_ADDRESS_AREA}
use Rattle.index_model.specs.declared.range.UnitRange.{UnitRange}
use Rattle.index_model.specs.declared.unit.Unit.{Unit as UnitHeader}
use Rattle.index_model.specs.Layout.{field, u32_bytes, u64_bytes}
use Rattle.index_model.specs.Meaning.{◌>>◌, fault, holds_or, each}
use Rattle.index_model.specs.Ranges.{contains, unit_at}
use Rattle.index_model.specs.GdbIndex.{index_number, cu_list, types_list, address_area}
use Rattle.index_model.specs.GdbAreas.{Areas, items, unit_count}
use Rattle.index_model.specs.GdbIndexRead.{Address, address, whole_items}
use Rattle.index_model.proofs.IndexSizes.{size_4, size_8}
use Rattle.index_alike.proofs.GdbPlaces.{Stands, stands_in, field_is, stands_first, stands_last, stands_at, length_is, items_are, each_below, by_places}
use Rattle.index_alike.proofs.GdbUnits.{cus_size, types_size, count_is, number_below}
use Rattle.index_alike.proofs.GdbSteps.{then_is, is_lt}

-- the ends of a piece have 8 bytes
abbrev pub IsWide : UnitRange → Type 0
IsWide p = (p.range.low < 2 ^ 64) × (p.range.end < 2 ^ 64)

no_piece : UnitRange
no_piece = record { unit = 0; range = record { low = 0; end = 0 } }

module _ (units : List UnitHeader) where
  -- a piece as it is read
  abbrev pub address_of : UnitRange → Address
  address_of p = record { low = p.range.low; end = p.range.end; number = index_number units p.unit }

  abbrev piece_bytes : UnitRange → List ℕ
  piece_bytes p = u64_bytes p.range.low ++ u64_bytes p.range.end ++ u32_bytes (index_number units p.unit)

  piece_size : (p : UnitRange) → length (piece_bytes p) ≡ 20
  piece_size p =
      length-append (u64_bytes p.range.low ++ u64_bytes p.range.end) (u32_bytes (index_number units p.unit))
      ∙ (λ i. length-append (u64_bytes p.range.low) (u64_bytes p.range.end) i + size_4 (index_number units p.unit) i)
      ∙ (λ i. size_8 p.range.low i + size_8 p.range.end i + 4)

  pub addresses_size : (pieces : List UnitRange) → length (address_area units pieces) ≡ 20 * length pieces
  addresses_size pieces = length_is piece_bytes 20 piece_size pieces

  module _ (few : length units < 2 ^ 28) (some : 0 < length units) (a : Areas) (cus : a.cus.rest ≡ cu_list units) (types : a.types.rest ≡ types_list units) where
    address_is : (p : UnitRange) (at : ℕ) → IsWide p → address a (record { at = at; rest = piece_bytes p }) ≡ Ok (address_of p)
    unfolding address
    address_is p at wide =
        let bytes : List ℕ = piece_bytes p in
        let n : ℕ = index_number units p.unit in
        let ends : Stands 0 (u64_bytes p.range.low ++ u64_bytes p.range.end) bytes = stands_first (u64_bytes p.range.low ++ u64_bytes p.range.end) (u32_bytes n) in
        let low : field 8 0 bytes ≡ p.range.low = field_is 8 p.range.low 0 (stands_in ends (stands_first (u64_bytes p.range.low) (u64_bytes p.range.end))) (omega (arith, wide.0)) in
        let end : field 8 8 bytes ≡ p.range.end = field_is 8 p.range.end 8 (stands_at (omega (arith, size_8 p.range.low)) (stands_in ends (stands_last (u64_bytes p.range.low) (u64_bytes p.range.end)))) (omega (arith, wide.1)) in
        let place : length (u64_bytes p.range.low ++ u64_bytes p.range.end) ≡ 16 = length-append (u64_bytes p.range.low) (u64_bytes p.range.end) ∙ (λ i. size_8 p.range.low i + size_8 p.range.end i) in
        let within = number_below units p.unit some in
        let number : field 4 16 bytes ≡ n = field_is 4 n 16 (stands_at place (stands_last (u64_bytes p.range.low ++ u64_bytes p.range.end) (u32_bytes n))) (omega (arith, within, few)) in
        let known : ltb (field 4 16 bytes) (unit_count a) ≡ true = is_lt (field 4 16 bytes) (unit_count a) (omega (arith, number, within, count_is units a cus types)) in
        let read : Result Address Fault = Ok (record { low = field 8 0 bytes; end = field 8 8 bytes; number = field 4 16 bytes }) in
        then_is (ltb (field 4 16 bytes) (unit_count a)) (fault GDB_ADDRESS_AREA at) read (Ok (address_of p)) known (λ i. Ok (record { low = low i; end = end i; number = number i }))

    pub addresses_are : (pieces : List UnitRange) → All IsWide pieces → a.addresses.rest ≡ address_area units pieces → each (address a) (items 20 a.addresses) ≡ Ok (map address_of pieces)
    addresses_are pieces wide is =
        let given : ℕ → Input = λ k. record { at = a.addresses.at + 20 * k; rest = piece_bytes (get_or pieces k no_piece) } in
        ap (each (address a)) (items_are piece_bytes 20 (omega arith) piece_size pieces no_piece a.addresses is)
        ∙ each_below (address a) given (λ k. address_of (get_or pieces k no_piece)) (length pieces) (λ k lt. address_is (get_or pieces k no_piece) (a.addresses.at + 20 * k) (wide k no_piece lt))
        ∙ ap (λ (w : List Address). Ok w) (by_places address_of pieces no_piece)

  module _ (a : Areas) (cus : a.cus.rest ≡ cu_list units) (types : a.types.rest ≡ types_list units) (pieces : List UnitRange) (area : a.addresses.rest ≡ address_area units pieces) where
    abbrev all_addresses : Result (List Address) Fault
    all_addresses = each (address a) (items 20 a.addresses)

    pub whole_items_are : (found : List Address) → each (address a) (items 20 a.addresses) ≡ Ok found → whole_items a ≡ Ok found
    unfolding whole_items
    whole_items_are found is =
        let cus_whole : eqb (length a.cus.rest % 16) 0 ≡ true = eq-eqb (length a.cus.rest % 16) 0 (omega (arith, ap length cus, cus_size units)) in
        let types_whole : eqb (length a.types.rest % 24) 0 ≡ true = eq-eqb (length a.types.rest % 24) 0 (omega (arith, ap length types, types_size units)) in
        let area_whole : eqb (length a.addresses.rest % 20) 0 ≡ true = eq-eqb (length a.addresses.rest % 20) 0 (omega (arith, ap length area, addresses_size pieces)) in
        then_is (eqb (length a.cus.rest % 16) 0) (fault GDB_UNIT_LIST a.cus.at) (holds_or (eqb (length a.types.rest % 24) 0) (fault GDB_UNIT_LIST a.types.at) >> (holds_or (eqb (length a.addresses.rest % 20) 0) (fault GDB_ADDRESS_AREA a.addresses.at) >> all_addresses)) (Ok found) cus_whole
        (then_is (eqb (length a.types.rest % 24) 0) (fault GDB_UNIT_LIST a.types.at) (holds_or (eqb (length a.addresses.rest % 20) 0) (fault GDB_ADDRESS_AREA a.addresses.at) >> all_addresses) (Ok found) types_whole
        (then_is (eqb (length a.addresses.rest % 20) 0) (fault GDB_ADDRESS_AREA a.addresses.at) all_addresses (Ok found) area_whole is))

  -- the number at an address is that of the unit at the address
  pub numbers_are : (pieces : List UnitRange) (a : ℕ) → option_map (λ e. e.number) (find (λ e. leb e.low a && ltb a e.end) (map address_of pieces)) ≡ option_map (index_number units) (unit_at pieces a)
  unfolding unit_at
  numbers_are [] a = refl
  numbers_are (p ∷ ps) a = elim (contains a p.range) as (λ b. option_map (λ e. e.number) (cond b (Some (address_of p)) (find (λ e. leb e.low a && ltb a e.end) (map address_of ps))) ≡ option_map (index_number units) (option_map (λ u. u.unit) (cond b (Some p) (find (λ u. contains a u.range) ps)))) [
    | true ↦ refl
    | false ↦ numbers_are ps a
  ]
