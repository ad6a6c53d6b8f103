-- The symbol table reads back as the names with their vectors.
use Rattle.std.proofs.Common.{◌≡◌, ℕ, ◌+◌, ◌*◌, ◌^◌, ◌<◌, ◌≤◌, Bool, false, ltb, eqb, cond, List, [], length, get_or, map, Option, Some, None, Result, Ok, refl, ap, ◌∙◌, subst, arith, zero-add}
use Rattle.std.specs.Prelude.{Contains}
use Rattle.std.specs.List.{list_all}
use Rattle.std.proofs.lemmas.Bool.{ne_eqb}
use Rattle.std.proofs.lemmas.List.Elements.{Contains-get_or}
use Rattle.std.proofs.lemmas.List.FromFn.{length-range_with_len, get_or-range_with_len}
use Rattle.byteorder.specs.Endian.{little_number}
use Rattle.ix_base.specs.declared.fault.Fault.{Fault}
use Rattle.ix_base.specs.Reading.{Input}
use Rattle.index_model.specs.declared.entry.Entry.{Entry}
use Rattle.index_model.specs.declared.index_code.TheConstants.{GDB_BAD_NAME, GDB_BAD_VECTOR}
use Rattle.index_model.specs.declared.unit.Unit.{Unit as UnitHeader}
use Rattle.index_model.specs.Layout.{below, field, u32_bytes}
use Rattle.index_model.specs.Meaning.{◌>>=◌, ◌>>◌, fault, holds_or, some_or, each}
use Rattle.index_model.specs.GdbSlots.{slot_count, slots_of}
use Rattle.index_model.specs.GdbIndex.{Pool, pool_of, pool_bytes, cu_list, types_list, vector, name_place, vector_place, slot_bytes, name_in_slot, symbol_table}
use Rattle.index_model.specs.GdbAreas.{Areas, items, unit_count, string_at, vector_at}
use Rattle.index_model.specs.GdbIndexRead.{Slot, full_slot, slot_at, unit_in}
use Rattle.index_model.proofs.IndexSizes.{size_4, slot_size}
use Rattle.index_alike.proofs.GdbPlaces.{is_within, stands_at, field_is, stands_first, stands_last, length_is, items_are, each_below}
use Rattle.index_alike.proofs.GdbUnits.{count_is}
use Rattle.index_alike.proofs.GdbPool.{name_stands, vector_stands, name_behind, string_is, vector_is, has_vector}
use Rattle.index_alike.proofs.GdbElements.{vector_low, vector_known}
use Rattle.index_alike.proofs.GdbPlaced.{in_slot}
use Rattle.index_alike.proofs.GdbPositions.{HasNoZero}
use Rattle.index_alike.proofs.GdbSteps.{then_is, some_is}

-- eight bytes are zero only where the first four are
pub wide_zero : (xs : List ℕ) → little_number 8 xs ≡ 0 → little_number 4 xs ≡ 0
wide_zero xs e = omega (arith, e)

-- a place behind the first four bytes isn't 0
pub none_there : (n place : ℕ) → n ≡ 0 → n ≡ place → 4 ≤ place → ⊥
none_there n place none is le = omega (arith, none, is, le)

module _ (units : List UnitHeader) (entries : List Entry) where
  abbrev pool : Pool
  pool = pool_of units entries

  -- a slot as it is read
  abbrev pub slot_of : ℕ → List ℕ → Slot
  slot_of at name = record { at = at; name = name; elements = vector units entries name }

  abbrev pub slot_read : ℕ → Option (List ℕ) → Option Slot
  slot_read at None = None
  slot_read at (Some name) = Some (slot_of at name)

  abbrev pub count : ℕ
  count = slot_count (length pool.names)

  abbrev pub slots : List ℕ
  slots = slots_of pool.names

  pub table_size : length (symbol_table units entries pool) ≡ 8 * count
  unfolding symbol_table
  table_size = length_is (λ slot. slot_bytes units entries pool (name_in_slot pool.names slots slot)) 8 (λ slot. slot_size units entries pool (name_in_slot pool.names slots slot)) (below count) ∙ ap (λ (n : ℕ). 8 * n) (length-range_with_len 0 count)

  module _ (few : length units < 2 ^ 28) (some : 0 < length units) (short : length pool.names < 2 ^ 60) (small : length (pool_bytes pool) < 2 ^ 32)
      (clean : (name : List ℕ) → Contains pool.names name → HasNoZero name)
      (a : Areas) (cus : a.cus.rest ≡ cu_list units) (types : a.types.rest ≡ types_list units) (is : a.pool.rest ≡ pool_bytes pool) where
    pub name_reads : (name : List ℕ) → Contains pool.names name → string_at a (name_place pool name) ≡ Some name
    name_reads name c = string_is a (pool_bytes pool) is small (name_place pool name) name (clean name c) (name_stands pool name c)

    pub name_low : (name : List ℕ) → Contains pool.names name → name_place pool name < 2 ^ 32
    name_low name c = omega (arith, is_within (name_stands pool name c), small)

    full_is : (at : ℕ) (name : List ℕ) → Contains pool.names name → slot_at a (record { at = at; rest = slot_bytes units entries pool (Some name) }) ≡ Ok (Some (slot_of at name))
    unfolding full_slot
    full_is at name c =
        let v : List ℕ = vector units entries name in
        let has = has_vector units entries name c in
        let bytes : List ℕ = slot_bytes units entries pool (Some name) in
        let stands = vector_stands pool v has in
        let first : field 4 0 bytes ≡ name_place pool name = field_is 4 (name_place pool name) 0 (stands_first (u32_bytes (name_place pool name)) (u32_bytes (vector_place pool v))) (omega (arith, name_low name c)) in
        let second : field 4 4 bytes ≡ vector_place pool v = field_is 4 (vector_place pool v) 4 (stands_at (size_4 (name_place pool name)) (stands_last (u32_bytes (name_place pool name)) (u32_bytes (vector_place pool v)))) (omega (arith, is_within stands, small)) in
        let full : eqb (field 8 0 bytes) 0 ≡ false = ne_eqb (field 8 0 bytes) 0 (λ none. absurd (none_there (field 4 0 bytes) (name_place pool name) (wide_zero bytes none) first (name_behind pool name v has))) in
        let text : string_at a (field 4 0 bytes) ≡ Some name = ap (string_at a) first ∙ name_reads name c in
        let elements : vector_at a (field 4 4 bytes) ≡ Some v = ap (vector_at a) second ∙ vector_is a (pool_bytes pool) is small (vector_place pool v) v (vector_low units few some entries name) stands in
        let known = vector_known units few some (unit_count a) (count_is units a cus types) entries name in
        ap (λ (b : Bool). cond b (Ok None) (full_slot a (record { at = at; rest = bytes }))) full
        ∙ some_is (string_at a (field 4 0 bytes)) (fault GDB_BAD_NAME at) (behind_name at bytes) name (Ok (Some (slot_of at name))) text
        (some_is (vector_at a (field 4 4 bytes)) (fault GDB_BAD_VECTOR at) (behind_vector at name) v (Ok (Some (slot_of at name))) elements
        (then_is (list_all (λ e. ltb (unit_in e) (unit_count a)) v) (fault GDB_BAD_VECTOR at) (Ok (Some (slot_of at name))) (Ok (Some (slot_of at name))) known refl))
      where
        behind_vector : ℕ → List ℕ → List ℕ → Result (Option Slot) Fault
        behind_vector at name elements = holds_or (list_all (λ e. ltb (unit_in e) (unit_count a)) elements) (fault GDB_BAD_VECTOR at) >> Ok (Some (record { at = at; name = name; elements = elements }))

        behind_name : ℕ → List ℕ → List ℕ → Result (Option Slot) Fault
        behind_name at bytes name = some_or (vector_at a (field 4 4 bytes)) (fault GDB_BAD_VECTOR at) >>= behind_vector at name

    slot_is : (at : ℕ) (o : Option (List ℕ)) → ((name : List ℕ) → o ≡ Some name → Contains pool.names name) → slot_at a (record { at = at; rest = slot_bytes units entries pool o }) ≡ Ok (slot_read at o)
    slot_is at None known = refl
    slot_is at (Some name) known = full_is at name (known name refl)

    in_names : (slot : ℕ) (name : List ℕ) → name_in_slot pool.names slots slot ≡ Some name → Contains pool.names name
    in_names slot name e =
        let s = in_slot pool.names short slot name e in
        subst (Contains pool.names) s.name_is (Contains-get_or pool.names s.number [] s.within)

    pub slots_are : a.table.rest ≡ symbol_table units entries pool → each (slot_at a) (items 8 a.table) ≡ Ok (map (λ k. slot_read (a.table.at + 8 * k) (name_in_slot pool.names slots k)) (below count))
    unfolding symbol_table
    slots_are table =
        ap (each (slot_at a)) (items_are bytes_of 8 (omega arith) (λ slot. slot_size units entries pool (name_in_slot pool.names slots slot)) (below count) 0 a.table table)
        ∙ ap (λ (n : ℕ). each (slot_at a) (map given (below n))) (length-range_with_len 0 count)
        ∙ each_below (slot_at a) given (λ k. slot_read (a.table.at + 8 * k) (name_in_slot pool.names slots k)) count one
      where
        bytes_of : ℕ → List ℕ
        bytes_of slot = slot_bytes units entries pool (name_in_slot pool.names slots slot)

        given : ℕ → Input
        given k = record { at = a.table.at + 8 * k; rest = bytes_of (get_or (below count) k 0) }

        one : (k : ℕ) → k < count → slot_at a (given k) ≡ Ok (slot_read (a.table.at + 8 * k) (name_in_slot pool.names slots k))
        one k lt =
            let there : get_or (below count) k 0 ≡ k = get_or-range_with_len 0 count k 0 lt ∙ zero-add k in
            ap (λ (j : ℕ). slot_at a (record { at = a.table.at + 8 * k; rest = bytes_of j })) there
            ∙ slot_is (a.table.at + 8 * k) (name_in_slot pool.names slots k) (λ name e. in_names k name e)
