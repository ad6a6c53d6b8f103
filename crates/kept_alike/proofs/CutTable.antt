-- A symbol table over a constant pool that is cut has a slot whose name has no end.
use Rattle.std.proofs.Common.{◌≡◌, ℕ, zero, suc, ◌+◌, ◌*◌, ◌^◌, ◌<◌, Bool, false, eqb, cond, List, [], ◌∷◌, ◌++◌, length, get_or, take, map, Option, Some, None, Result, Ok, refl, sym, ap, ◌∙◌, arith}
use Rattle.std.specs.Prelude.{bytes_eq, flat_map, Contains}
use Rattle.std.proofs.lemmas.Bool.{ne_eqb}
use Rattle.std.proofs.lemmas.List.{length-append, nil_from_length}
use Rattle.std.proofs.lemmas.List.FromFn.{get_or-map-range_with_len, get_or-range_with_len, length-map-range_with_len, length-range_with_len}
use Rattle.index_alike.proofs.GdbWhole.{names_low}
use Rattle.index_alike.proofs.GdbTable.{none_there, wide_zero}
use Rattle.ix_base.specs.Reading.{Input}
use Rattle.index_model.specs.declared.entry.Entry.{Entry}
use Rattle.index_model.specs.declared.unit.Unit.{Unit as UnitHeader}
use Rattle.index_model.specs.Layout.{below, ended, field, u32_bytes}
use Rattle.index_model.specs.Meaning.{◌>>=◌, each}
use Rattle.index_model.specs.Ordered.{distinct}
use Rattle.index_model.specs.GdbSlots.{slot_count, slots_of}
use Rattle.index_model.specs.GdbIndex.{Pool, index_names, name_in_slot, name_place, pool_bytes, pool_of, slot_bytes, symbol_table, vector, vector_bytes, vector_place}
use Rattle.index_model.specs.GdbAreas.{Areas, items, string_at}
use Rattle.index_model.specs.GdbIndexRead.{Slot, full_slot, slot_at}
use Rattle.index_model.proofs.IndexSizes.{slot_size}
use Rattle.index_model.proofs.Meanings.{bind_ok, some_ok}
use Rattle.index_alike.proofs.GdbPlaced.{name_there, slot_below}
use Rattle.index_alike.proofs.GdbPlaces.{field_is, is_within, items_are, stands_first}
use Rattle.index_alike.proofs.GdbPool.{has_vector, name_behind, name_stands}
use Rattle.index_alike.proofs.GdbPositions.{HasNoZero}
use Rattle.kept_alike.proofs.CutPool.{is_name, name_cut}

-- where each of a list has a meaning, so has the one at a place
each_at : {A B E : Type 0} (f : A → Result B E) (xs : List A) (ys : List B) (k : ℕ) (d : A) → each f xs ≡ Ok ys → k < length xs → (y : B) × (f (get_or xs k d) ≡ Ok y)
each_at f [] ys k d is lt = absurd (omega (arith, lt))
each_at f (x ∷ xs) ys zero d is lt =
    let b = bind_ok (f x) (λ y. each f xs >>= λ more. Ok (y ∷ more)) ys is in
    (b.0, b.1)
each_at f (x ∷ xs) ys (suc k) d is lt =
    let b = bind_ok (f x) (λ y. each f xs >>= λ more. Ok (y ∷ more)) ys is in
    let c = bind_ok (each f xs) (λ more. Ok (b.0 ∷ more)) ys b.2 in
    each_at f xs c.0 k d c.1 (omega (arith, lt))

module _ (units : List UnitHeader) (entries : List Entry) (small : length (pool_bytes (pool_of units entries)) < 2 ^ 32) where
  abbrev pool : Pool
  pool = pool_of units entries

  abbrev names : List (List ℕ)
  names = pool.names

  abbrev count : ℕ
  count = slot_count (length names)

  abbrev slots : List ℕ
  slots = slots_of names

  short : length names < 2 ^ 60
  short = omega (arith, names_low names, length-append (flat_map vector_bytes pool.vectors) (flat_map ended names), small)

  -- a slot with a name is read only where the name is
  slot_reads : (a : Areas) (at : ℕ) (name : List ℕ) (y : Option Slot) → Contains names name → slot_at a (record { at = at; rest = slot_bytes units entries pool (Some name) }) ≡ Ok y → (text : List ℕ) × (string_at a (name_place pool name) ≡ Some text)
  unfolding full_slot
  slot_reads a at name y c is =
      let bytes : List ℕ = slot_bytes units entries pool (Some name) in
      let v : List ℕ = vector units entries name in
      let low : name_place pool name < 2 ^ 32 = omega (arith, is_within (name_stands pool name c), small) in
      let place : field 4 0 bytes ≡ name_place pool name = field_is 4 (name_place pool name) 0 (stands_first (u32_bytes (name_place pool name)) (u32_bytes (vector_place pool v))) (omega (arith, low)) in
      let full : eqb (field 8 0 bytes) 0 ≡ false = ne_eqb (field 8 0 bytes) 0 (λ none. none_there (field 4 0 bytes) (name_place pool name) (wide_zero bytes none) place (name_behind pool name v (has_vector units entries name c))) in
      let s = some_ok (string_at a (field 4 0 bytes)) _ _ y (ap (λ (b : Bool). cond b (Ok None) (full_slot a (record { at = at; rest = bytes }))) (sym full) ∙ is) in
      (s.0, ap (string_at a) (sym place) ∙ s.1)

  -- where all slots are read, so is the slot of each name
  name_is_read : (a : Areas) → a.table.rest ≡ symbol_table units entries pool → (ys : List (Option Slot)) → each (slot_at a) (items 8 a.table) ≡ Ok ys → (k : ℕ) → k < length names → (at : ℕ) × (y : Option Slot) × (slot_at a (record { at = at; rest = slot_bytes units entries pool (Some (get_or names k [])) }) ≡ Ok y)
  unfolding symbol_table
  name_is_read a table ys is k lt =
      let slot : ℕ = get_or slots k 0 in
      let below_count : slot < count = slot_below names short k lt in
      let are = items_are bytes_of 8 (omega arith) (λ slot. slot_size units entries pool (name_in_slot names slots slot)) (below count) 0 a.table table in
      let size : length (below count) ≡ count = length-range_with_len 0 count in
      let e = each_at (slot_at a) (map given (below (length (below count)))) ys slot (given 0) (ap (each (slot_at a)) (sym are) ∙ is) (omega (arith, length-map-range_with_len given 0 (length (below count)), size, below_count)) in
      let item : get_or (map given (below (length (below count)))) slot (given 0) ≡ given slot = get_or-map-range_with_len given 0 (length (below count)) slot slot (given 0) (omega (arith, size, below_count)) (omega arith) in
      let there : get_or (below count) slot 0 ≡ slot = get_or-range_with_len 0 count slot 0 below_count ∙ omega arith in
      let own : bytes_of (get_or (below count) slot 0) ≡ slot_bytes units entries pool (Some (get_or names k [])) = ap bytes_of there ∙ ap (slot_bytes units entries pool) (name_there names short k lt) in
      (a.table.at + 8 * slot, e.0, ap (λ (w : List ℕ). slot_at a (record { at = a.table.at + 8 * slot; rest = w })) (sym own) ∙ ap (slot_at a) (sym item) ∙ e.1)
    where
      bytes_of : ℕ → List ℕ
      bytes_of slot = slot_bytes units entries pool (name_in_slot names slots slot)

      given : ℕ → Input
      given k = record { at = a.table.at + 8 * k; rest = bytes_of (get_or (below count) k 0) }

  -- without names the pool is empty
  no_pool : length names ≡ 0 → length (pool_bytes pool) ≡ 0
  unfolding pool_of distinct
  no_pool none = ap (λ (ns : List (List ℕ)). length (flat_map vector_bytes (distinct bytes_eq (map (vector units entries) ns)) ++ flat_map ended ns)) (nil_from_length (index_names entries) none)

  pub slots_cut : ((name : List ℕ) → Contains names name → HasNoZero name) → (a : Areas) (left : ℕ) → a.table.rest ≡ symbol_table units entries pool → a.pool.rest ≡ take left (pool_bytes pool) → left < length (pool_bytes pool) → (ys : List (Option Slot)) → each (slot_at a) (items 8 a.table) ≡ Ok ys → ⊥
  slots_cut clean a left table is less ys read = by (length names) refl
    where
      by : (n : ℕ) → length names ≡ n → ⊥
      by zero none = omega (arith, no_pool none, less)
      by (suc k) all =
          let r = name_is_read a table ys read k (omega (arith, all)) in
          let name : List ℕ = get_or names k [] in
          let c : Contains names name = is_name units entries k (sym all) in
          let s = slot_reads a r.0 name r.1 c r.2 in
          name_cut units entries k (sym all) (clean name c) a left is less s.0 s.1
