-- The slots that are read are those of the definition.
use Rattle.std.proofs.Common.{◌≡◌, ℕ, zero, suc, ◌<◌, ◌+◌, ◌/◌, ◌%◌, Bool, true, false, ◌&&◌, cond, eqb, List, [], ◌∷◌, length, map, Option, Some, None, Result, Ok, Err, refl, arith, ap, sym, ◌∙◌}
use Rattle.std.specs.Prelude.{option_map, unwrap_or, slice_get, nat_lt}
use Rattle.std.specs.List.{range_with_len, enumerate_from, list_all}
use Rattle.std.proofs.lemmas.Option.{unwrap_or-slice_get}
use Rattle.std.proofs.lemmas.List.FromFn.{get_or-map-range_with_len, length-map-range_with_len}
use Rattle.ix_base.specs.declared.fault.Fault.{Fault}
use Rattle.ix_base.specs.Reading.{Input}
use Rattle.index_model.specs.declared.index_code.TheConstants.{GDB_BAD_NAME, GDB_BAD_VECTOR, GDB_LOST_SLOT, GDB_TABLE_SIZE}
use Rattle.index_model.specs.Meaning.{◌>>=◌, ◌>>◌, each, fault, holds_or, some_or, wrong_in}
use Rattle.index_model.specs.Layout.{field}
use Rattle.index_model.specs.GdbAreas.{Areas, items, unit_count}
use Rattle.index_model.specs.GdbIndexRead.{Slot as FullSlot, full_slot, slot_at, slot_or_none, unit_in, reached, is_table_size}
use Rattle.gdbindex_read.specs.declared.slots.Slot.{Slot}
use Rattle.gdbindex_read.specs.Pool.{are_of_units, string_in, vector_in}
use Rattle.gdbindex_read.specs.declared.symbols.SymbolTable.{SymbolTable}
use Rattle.gdbindex_read.specs.Areas.{item}
use Rattle.gdbindex_read.specs.Slots.{slot_in, full_seen, slot_seen, slot_of, slots_seen, slot_count, table_of, checked_size, checked_slots, is_found_from}
use Rattle.gdbindex_read.proofs.Loops.{err_of, each_is, fault_from, fault_from_all}

-- ---- one slot

module _ (a : Areas) (slot : Input) where
  abbrev found : Slot
  found = record { name = field 4 0 slot.rest; vector = field 4 4 slot.rest }

  -- of units alone
  abbrev pub all_of : List ℕ → Bool
  all_of es = list_all (λ e. nat_lt (unit_in e) (unit_count a)) es

  abbrev meaning : Option (List ℕ) → Option (List ℕ) → Result (Option FullSlot) Fault
  meaning name vector = some_or name (fault GDB_BAD_NAME slot.at) >>= λ name. some_or vector (fault GDB_BAD_VECTOR slot.at) >>= λ elements. holds_or (all_of elements) (fault GDB_BAD_VECTOR slot.at) >> Ok (Some (record { at = slot.at; name = name; elements = elements }))

  pub empty_slot : None ≡ slot_in slot.rest → wrong_in (slot_at a slot) ≡ None
  empty_slot e = elim (eqb (field 8 0 slot.rest) 0) as (λ b. None ≡ cond b None (Some found) → wrong_in (cond b (Ok None) (full_slot a slot)) ≡ None) [
    | true ↦ λ _. refl
    | false ↦ λ h. absurd cc
  ] e

  -- a slot that isn't empty has the meaning of its two offsets
  pub full : (s : Slot) → Some s ≡ slot_in slot.rest → slot_at a slot ≡ meaning (string_in a.pool.rest s.name) (vector_in a.pool.rest s.vector)
  unfolding full_slot
  full s e = elim (eqb (field 8 0 slot.rest) 0) as (λ b. Some s ≡ cond b None (Some found) → cond b (Ok None) (full_slot a slot) ≡ meaning (string_in a.pool.rest s.name) (vector_in a.pool.rest s.vector)) [
    | true ↦ λ h. absurd cc
    | false ↦ λ h. let same : found ≡ s = cc in ap (λ (x : Slot). meaning (string_in a.pool.rest x.name) (vector_in a.pool.rest x.vector)) same
  ] e

  module _ (s : Slot) (is : Some s ≡ slot_in slot.rest) where
    pub bad_name : string_in a.pool.rest s.name ≡ None → wrong_in (slot_at a slot) ≡ Some (fault GDB_BAD_NAME slot.at)
    bad_name e = ap wrong_in (full s is) ∙ rw e refl

    pub bad_vector : (name : List ℕ) → string_in a.pool.rest s.name ≡ Some name → are_of_units (unit_count a) (vector_in a.pool.rest s.vector) ≡ false → wrong_in (slot_at a slot) ≡ Some (fault GDB_BAD_VECTOR slot.at)
    bad_vector name e f = ap wrong_in (full s is) ∙ rw e (by (vector_in a.pool.rest s.vector) f)
      where
        by : (v : Option (List ℕ)) → are_of_units (unit_count a) v ≡ false → wrong_in (meaning (Some name) v) ≡ Some (fault GDB_BAD_VECTOR slot.at)
        by None f = refl
        by (Some es) f = rw f refl

    pub good : (name : List ℕ) → string_in a.pool.rest s.name ≡ Some name → are_of_units (unit_count a) (vector_in a.pool.rest s.vector) ≡ true → wrong_in (slot_at a slot) ≡ None
    good name e f = ap wrong_in (full s is) ∙ rw e (by (vector_in a.pool.rest s.vector) f)
      where
        by : (v : Option (List ℕ)) → are_of_units (unit_count a) v ≡ true → wrong_in (meaning (Some name) v) ≡ None
        by None f = absurd cc
        by (Some es) f = rw f refl

  by_offsets : (name vector : Option (List ℕ)) (y : Option FullSlot) → meaning name vector ≡ Ok y → y ≡ Some (record { at = slot.at; name = unwrap_or name []; elements = unwrap_or vector [] })
  by_offsets None vector y e = absurd cc
  by_offsets (Some name) None y e = absurd cc
  by_offsets (Some name) (Some es) y e = elim (all_of es) as (λ b. (holds_or b (fault GDB_BAD_VECTOR slot.at) >> Ok (Some (record { at = slot.at; name = name; elements = es }))) ≡ Ok y → y ≡ Some (record { at = slot.at; name = name; elements = es })) [
    | true ↦ λ h. cc
    | false ↦ λ h. absurd cc
  ] e

  -- a slot without a fault is what is seen of it
  pub slot_is : (y : Option FullSlot) → slot_at a slot ≡ Ok y → y ≡ slot_seen a.pool.rest slot
  unfolding full_slot
  slot_is y e = elim (eqb (field 8 0 slot.rest) 0) as (λ b. cond b (Ok None) (full_slot a slot) ≡ Ok y → y ≡ option_map (full_seen a.pool.rest slot.at) (cond b None (Some found))) [
    | true ↦ λ h. cc
    | false ↦ λ h. by_offsets (string_in a.pool.rest (field 4 0 slot.rest)) (vector_in a.pool.rest (field 4 4 slot.rest)) y h
  ] e

-- ---- all slots

pub at_place : {X : Type 0} (h : ℕ → Option X) (n k : ℕ) → k < n → unwrap_or (slice_get (map h (range_with_len 0 n)) k) None ≡ h k
at_place h n k lt = unwrap_or-slice_get (map h (range_with_len 0 n)) k None ∙ get_or-map-range_with_len h 0 n k k None lt (omega arith)

pub numbered : {X : Type 0} (h : ℕ → X) (i m : ℕ) → enumerate_from i (map h (range_with_len i m)) ≡ map (λ k. (k, h k)) (range_with_len i m)
numbered h i zero = refl
numbered {X = X} h i (suc m) = ap (λ (xs : List (ℕ × X)). (i, h i) ∷ xs) (numbered h (i + 1) m)

-- ---- the table

module _ (t : SymbolTable) where
  pub length-slots : length (slots_seen t) ≡ slot_count t
  length-slots = length-map-range_with_len (slot_of t) 0 (slot_count t)

  module _ (k : ℕ) (within : k < slot_count t) where
    pub here : slot_or_none (slots_seen t) k ≡ slot_of t k
    here = at_place (slot_of t) (slot_count t) k within

    abbrev at_slot : Option Slot → Option FullSlot
    at_slot s = option_map (full_seen t.pool.now (item 8 (table_of t) k).at) s

    pub here_full : (s : Slot) → Some s ≡ slot_in (item 8 (table_of t) k).rest → slot_or_none (slots_seen t) k ≡ Some (full_seen t.pool.now (item 8 (table_of t) k).at s)
    here_full s e = here ∙ ap at_slot (sym e)

    pub here_empty : None ≡ slot_in (item 8 (table_of t) k).rest → slot_or_none (slots_seen t) k ≡ None
    here_empty e = here ∙ ap at_slot (sym e)

module _ (a : Areas) where
  pub wrong_size : (d : Fault) → Some d ≡ wrong_in (checked_size a.table) → checked_slots a ≡ Err d
  unfolding checked_slots
  wrong_size d e = rw (err_of (checked_size a.table) d e) refl

  size_is : (r : Result (record {}) Fault) → None ≡ wrong_in r → r ≡ Ok (record {})
  size_is (Ok x) e = refl
  size_is (Err d) e = absurd cc

  module _ (size : None ≡ wrong_in (checked_size a.table)) where
    pub wrong_slot : (d : Fault) → Some d ≡ wrong_in (each (slot_at a) (items 8 a.table)) → checked_slots a ≡ Err d
    unfolding checked_slots
    wrong_slot d e = rw (size_is (checked_size a.table) size, err_of (each (slot_at a) (items 8 a.table)) d e) refl

    pub right_slots : None ≡ wrong_in (each (slot_at a) (items 8 a.table)) → checked_slots a ≡ Ok (map (λ k. slot_seen a.pool.rest (item 8 a.table k)) (range_with_len 0 (length a.table.rest / 8)))
    unfolding checked_slots
    right_slots e =
        let are : each (slot_at a) (items 8 a.table) ≡ Ok (map (λ k. slot_seen a.pool.rest (item 8 a.table k)) (range_with_len 0 (length a.table.rest / 8))) = each_is (slot_at a) (item 8 a.table) (slot_seen a.pool.rest) (slot_is a) (range_with_len 0 (length a.table.rest / 8)) (sym e) in
        rw (size_is (checked_size a.table) size) are

pub right_size : (table : Input) → None ≡ wrong_in (checked_size table) → is_table_size (length table.rest / 8) ≡ true
right_size table e = by (eqb (length table.rest % 8) 0) (is_table_size (length table.rest / 8)) e
  where
    by : (b c : Bool) → None ≡ wrong_in (holds_or (b && c) (fault GDB_TABLE_SIZE table.at)) → c ≡ true
    by true true e = refl
    by true false e = absurd cc
    by false c e = absurd cc

-- ---- the path of a slot's name

module _ (slots : List (Option FullSlot)) (k : ℕ) where
  pub reached_none : (x : Option FullSlot) → is_found_from slots k x ≡ true → wrong_in (reached slots (k, x)) ≡ None
  reached_none None e = refl
  reached_none (Some slot) e = ap (λ (b : Bool). wrong_in (holds_or b (fault GDB_LOST_SLOT slot.at))) e

  pub reached_lost : (pool : List ℕ) (at : ℕ) (s : Option Slot) → is_found_from slots k (option_map (full_seen pool at) s) ≡ false → wrong_in (reached slots (k, option_map (full_seen pool at) s)) ≡ Some (fault GDB_LOST_SLOT at)
  reached_lost pool at None e = absurd cc
  reached_lost pool at (Some s) e = ap (λ (b : Bool). wrong_in (holds_or b (fault GDB_LOST_SLOT at))) e

-- the first fault of all slots' paths
pub all_reached : (t : SymbolTable) (count : ℕ) → count ≡ slot_count t → fault_from (reached (slots_seen t)) (λ k. (k, slot_of t k)) 0 count ≡ wrong_in (each (reached (slots_seen t)) (enumerate_from 0 (slots_seen t)))
all_reached t count e =
    fault_from_all (reached (slots_seen t)) (λ k. (k, slot_of t k)) count
    ∙ ap (λ (n : ℕ). wrong_in (each (reached (slots_seen t)) (map (λ k. (k, slot_of t k)) (range_with_len 0 n)))) e
    ∙ ap (λ (xs : List (ℕ × Option FullSlot)). wrong_in (each (reached (slots_seen t)) xs)) (sym (numbered (slot_of t) 0 (slot_count t)))
