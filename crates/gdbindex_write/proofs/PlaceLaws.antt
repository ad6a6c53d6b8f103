-- The slots and the shortcut as they are written are those of the index.
use Rattle.std.proofs.Common.{◌≡◌, ℕ, ◌+◌, ◌*◌, ◌<◌, true, false, not, nat_eq, List, [], ◌++◌, length, get_or, take, map, position, Option, Some, None, is_some, unwrap_or, refl, sym, ap, ◌∙◌, subst, arith}
use mathlib.Core.Bool.{◌&&◌, true≢false}
use Rattle.std.specs.Prelude.{filter, flat_map, bytes_eq, slice_get, option_map}
use Rattle.std.specs.List.{list_any, position_or_len}
use Rattle.std.proofs.lemmas.Cmp.{nat_list_eq_equiv}
use Rattle.std.proofs.lemmas.List.{get_or-map, length-map, take-map}
use Rattle.std.proofs.lemmas.List.FromFn.{get_or-map-range_with_len}
use Rattle.std.proofs.lemmas.List.Folds.{flat_map-map, list_any_at}
use Rattle.std.proofs.lemmas.List.Quantifiers.{position-Some}
use Rattle.std.proofs.lemmas.List.Sums.{position_or_len_is}
use Rattle.std.proofs.lemmas.Option.{slice_get-get_or}
use Rattle.ix_base.specs.Reading.{◌>>=◌ as ◌>>=?◌}
use Rattle.query_engine.proofs.TextOrder.{eq_from_same, eq_from_other}
use Rattle.query_engine.proofs.TextLists.{any_from_has, has_from_any}
use Rattle.query_engine.proofs.CountLaws.{any_filter, any_map, any_same}
use Rattle.index_model.specs.declared.answer.Main.{Main}
use Rattle.index_model.specs.declared.entry.Entry.{Entry}
use Rattle.index_model.specs.declared.unit.Unit.{Unit as UnitHeader}
use Rattle.index_model.specs.Layout.{below, u32_bytes, ended, start_of}
use Rattle.index_model.specs.Order.{Rises}
use Rattle.index_model.specs.Ordered.{bytes_lt, place_of}
use Rattle.index_model.proofs.Orders.{bytes_order, ascending_has, ascending_rises, pairs_from_rises}
use Rattle.index_model.specs.GdbSlots.{slot_count, slots_of}
use Rattle.index_model.specs.GdbIndex.{Pool, index_names, vector, name_place, vector_place, vector_bytes, slot_bytes, name_in_slot, symbol_table, shortcut}
use denote.Ref.{Bor}
use Rattle.gdbindex_write.specs.declared.places.Slot.{Slot}
use Rattle.gdbindex_write.specs.declared.symbols.Symbol.{Symbol}
use Rattle.gdbindex_write.specs.Pools.{pool_seen, vectors_seen}
use Rattle.gdbindex_write.specs.Symbols.{names_of}
use Rattle.gdbindex_write.specs.Places.{place_at, places_of, nowhere, numbered_bytes, place_of_name, shortcut_bytes}
use Rattle.gdbindex_write.specs.Sizes.{names_size, vectors_size}
use Rattle.gdbindex_write.specs.Slots.{numbers_in_slots}
use Rattle.gdbindex_write.specs.Writable.{is_plainly_named, IsMainOf}
use Rattle.gdbindex_write.proofs.PositionLaws.{is_some_position, position_map}
use Rattle.gdbindex_write.proofs.DistinctLaws.{is_in, place_is}
use Rattle.gdbindex_write.proofs.SlotLaws.{slots_length_of}
use Rattle.gdbindex_write.proofs.SizeLaws.{ended_length, vector_length, vectors_length, start_is}

-- ---- each name stands once

module _ (entries : List Entry) where
  abbrev names : List (List ℕ)
  names = index_names entries

  names_rise : Rises bytes_lt (index_names entries)
  unfolding index_names
  names_rise = ascending_rises bytes_lt bytes_order (map (λ e. e.name) (filter (λ e. not e.linkage) entries))

  -- the place of a name is its number
  other_name : (j k : ℕ) → j < k → k < length (index_names entries) → bytes_eq (get_or (index_names entries) k []) (get_or (index_names entries) j []) ≡ false
  other_name j k less lt = eq_from_other (get_or names k []) (get_or names j []) (λ same.
      let before : bytes_lt (get_or names j []) (get_or names k []) ≡ true = pairs_from_rises bytes_lt names names_rise j k [] less lt in
      bytes_order.itself (get_or names j []) (subst (λ (w : List ℕ). bytes_lt (get_or names j []) w ≡ true) same before))

  -- the place of a name is its number
  pub own_place : (k : ℕ) → k < length (index_names entries) → place_of bytes_eq (get_or (index_names entries) k []) (index_names entries) ≡ k
  own_place k lt =
      let name : List ℕ = get_or names k [] in
      let at : position_or_len (bytes_eq name) names ≡ k = position_or_len_is (bytes_eq name) names k [] (omega arith) (λ j less. other_name j k less lt) (λ _. eq_from_same name name refl) in
      let some : is_in name names ≡ true = list_any_at (bytes_eq name) names k [] lt (eq_from_same name name refl) in
      place_is (bytes_eq name) names some ∙ at

  -- whether an entry has the name that isn't a linkage entry
  pub has_name : (name : List ℕ) → list_any (is_plainly_named name) entries ≡ true → list_any (bytes_eq name) (index_names entries) ≡ true
  unfolding index_names
  has_name name some =
      let named : list_any (bytes_eq name) (map (λ (e : Entry). e.name) (filter (λ e. not e.linkage) entries)) ≡ true =
      any_map (bytes_eq name) (λ (e : Entry). e.name) (filter (λ e. not e.linkage) entries) ∙ any_filter (λ (e : Entry). bytes_eq name e.name) (λ (e : Entry). not e.linkage) entries
      ∙ any_same (λ (e : Entry). not e.linkage && bytes_eq name e.name) (is_plainly_named name) entries (λ e. ap (λ b. not e.linkage && b) (nat_list_eq_equiv.symm name e.name)) ∙ some in
      any_from_has name (index_names entries) (ascending_has bytes_lt bytes_order (map (λ (e : Entry). e.name) (filter (λ e. not e.linkage) entries)) name (has_from_any name (map (λ (e : Entry). e.name) (filter (λ e. not e.linkage) entries)) named))

module _ (units : List UnitHeader) (entries : List Entry) (symbols : List Symbol) (vectors : List (Bor (List ℕ))) (numbers : List ℕ) where
  abbrev own_pool : Pool
  own_pool = pool_seen symbols vectors

  abbrev own_names : List (List ℕ)
  own_names = names_of symbols

  abbrev own_vectors : List (List ℕ)
  own_vectors = vectors_seen vectors

  abbrev places : List Slot
  places = places_of symbols vectors numbers

  module _ (names_are : names_of symbols ≡ index_names entries) (numbers_are : numbers ≡ map (λ w. place_of bytes_eq w (vectors_seen vectors)) (map (vector units entries) (names_of symbols))) where
    count_is : length own_names ≡ length symbols
    count_is = length-map symbols (λ s. s.name.now)

    place_there : (k : ℕ) → k < length symbols → get_or places k nowhere ≡ place_at symbols vectors numbers k
    place_there k lt = get_or-map-range_with_len (place_at symbols vectors numbers) 0 (length symbols) k k nowhere lt (omega arith)

    name_start : (k : ℕ) → start_of (map ended own_names) k ≡ names_size (names_of (take k symbols))
    name_start k = start_is ended (λ (n : List ℕ). length n + 1) ended_length own_names k ∙ ap names_size (take-map (λ (s : Symbol). s.name.now) k symbols)

    own_place_in : (k : ℕ) → k < length own_names → place_of bytes_eq (get_or own_names k []) own_names ≡ k
    own_place_in k lt = subst (λ (ns : List (List ℕ)). k < length ns → place_of bytes_eq (get_or ns k []) ns ≡ k) (sym names_are) (own_place entries k) lt

    name_at : (k : ℕ) → k < length own_names → name_place own_pool (get_or own_names k []) ≡ vectors_size own_vectors + names_size (names_of (take k symbols))
    name_at k lt = (λ i. vectors_length own_vectors i + start_of (map ended own_names) (own_place_in k lt i)) ∙ ap (λ (n : ℕ). vectors_size own_vectors + n) (name_start k)

    number_at : (k : ℕ) → k < length own_names → get_or numbers k 0 ≡ place_of bytes_eq (vector units entries (get_or own_names k [])) own_vectors
    number_at k lt =
        let within : k < length (map (vector units entries) own_names) = rw length-map lt in
        ap (λ (w : List ℕ). get_or w k 0) numbers_are ∙ get_or-map (λ (w : List ℕ). place_of bytes_eq w own_vectors) (map (vector units entries) own_names) k [] 0 within ∙ ap (λ (w : List ℕ). place_of bytes_eq w own_vectors) (get_or-map (vector units entries) own_names k [] [] lt)

    vector_at : (k : ℕ) → k < length own_names → vector_place own_pool (vector units entries (get_or own_names k [])) ≡ vectors_size (vectors_seen (take (get_or numbers k 0) vectors))
    vector_at k lt =
        ap (start_of (map vector_bytes own_vectors)) (sym (number_at k lt)) ∙ start_is vector_bytes (λ (v : List ℕ). 4 + 4 * length v) vector_length own_vectors (get_or numbers k 0)
        ∙ ap vectors_size (take-map (λ (v : Bor (List ℕ)). v.now) (get_or numbers k 0) vectors)

    -- a slot
    slot_is : (k : ℕ) → k < length own_names → numbered_bytes places (Some k) ≡ slot_bytes units entries own_pool (slice_get own_names k)
    slot_is k lt =
        ap (λ (p : Slot). u32_bytes p.name ++ u32_bytes p.vector) (place_there k (omega (arith, lt, count_is)))
        ∙ sym (ap (slot_bytes units entries own_pool) (slice_get-get_or own_names k [] lt) ∙ (λ i. u32_bytes (name_at k lt i) ++ u32_bytes (vector_at k lt i)))

    any_slot : (slots : List ℕ) → length slots ≡ length own_names → (slot : ℕ) → numbered_bytes places (position (nat_eq slot) slots) ≡ slot_bytes units entries own_pool (name_in_slot own_names slots slot)
    any_slot slots size slot = by (position (nat_eq slot) slots) refl
      where
        by : (o : Option ℕ) → position (nat_eq slot) slots ≡ o → numbered_bytes places o ≡ slot_bytes units entries own_pool (o >>=? slice_get own_names)
        by None e = refl
        by (Some k) e = let p = position-Some (nat_eq slot) slots k 0 e in slot_is k (omega (arith, p.0, size))

    pub table_is : flat_map (numbered_bytes places) (numbers_in_slots own_names) ≡ symbol_table units entries own_pool
    unfolding symbol_table
    table_is =
        let slots : List ℕ = slots_of own_names in
        let count : ℕ = slot_count (length own_names) in
        flat_map-map (numbered_bytes places) (λ (slot : ℕ). position (nat_eq slot) slots) (below count)
        ∙ (λ i. flat_map (λ (slot : ℕ). any_slot slots (slots_length_of own_names) slot i) (below count))

    -- main
    named : (name : List ℕ) → list_any (bytes_eq name) own_names ≡ true → place_of_name symbols places name ≡ name_place own_pool name
    named name some =
        ap (λ (o : Option ℕ). unwrap_or (option_map (λ (k : ℕ). (get_or places k nowhere).name) o) 0)
        ((λ i. position (λ (s : Symbol). nat_list_eq_equiv.symm s.name.now name i) symbols) ∙ sym (position_map (bytes_eq name) (λ (s : Symbol). s.name.now) symbols))
        ∙ by (position (bytes_eq name) own_names) refl
      where
        by : (o : Option ℕ) → position (bytes_eq name) own_names ≡ o → unwrap_or (option_map (λ (k : ℕ). (get_or places k nowhere).name) o) 0 ≡ length (flat_map vector_bytes own_vectors) + start_of (map ended own_names) (unwrap_or o 0)
        by None e = absurd (true≢false (sym some ∙ sym (is_some_position (bytes_eq name) own_names) ∙ ap is_some e))
        by (Some k) e =
            let p = position-Some (bytes_eq name) own_names k [] e in
            ap (λ (p : Slot). p.name) (place_there k (omega (arith, p.0, count_is))) ∙ sym (λ i. vectors_length own_vectors i + name_start k i)

    pub shortcut_is : (main : Option Main) → IsMainOf entries main → shortcut_bytes symbols places main ≡ shortcut own_pool main
    shortcut_is None is = refl
    shortcut_is (Some main) is =
        let some : list_any (bytes_eq main.name) own_names ≡ true = subst (λ (ns : List (List ℕ)). list_any (bytes_eq main.name) ns ≡ true) (sym names_are) (has_name entries main.name is) in
        ap (λ (n : ℕ). u32_bytes main.language ++ u32_bytes n) (named main.name some)
