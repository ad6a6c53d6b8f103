-- What was prepared and written is the index.
use Rattle.std.proofs.Common.{◌≡◌, ℕ, ◌+◌, ◌<◌, ◌≤◌, true, cond, nat_eq, List, [], ◌∷◌, ◌++◌, length, get_or, map, position, Option, Some, Result, Ok, Err, refl, sym, ap, ◌∙◌, subst, arith}
use Rattle.std.specs.Prelude.{flat_map, bytes_eq, ◌==◌, All, IsErrAnd}
use Rattle.std.specs.List.{list_any}
use Rattle.std.proofs.lemmas.List.{get_or-map, length-map}
use Rattle.std.proofs.lemmas.List.Folds.{list_any_at}
use Rattle.std.proofs.lemmas.List.FromFn.{length-map-range_with_len, get_or-map-range_with_len}
use Rattle.std.proofs.lemmas.List.Quantifiers.{position-Some}
use Rattle.std.proofs.lemmas.List.Sums.{sum_by-cons}
use Rattle.common_laws.proofs.Lists.{position_within}
use Rattle.query_engine.proofs.TextOrder.{eq_from_same}
use Rattle.index_model.specs.GdbSlots.{slot_count, slots_of}
use Rattle.index_model.specs.declared.answer.Main.{Main}
use Rattle.index_model.specs.declared.entry.Entry.{Entry}
use Rattle.index_model.specs.declared.range.UnitRange.{UnitRange}
use Rattle.index_model.specs.declared.unit.Unit.{Unit as UnitHeader}
use Rattle.index_model.specs.Layout.{below, ended}
use Rattle.index_model.specs.Ordered.{distinct, place_of}
use Rattle.index_model.specs.GdbIndex.{Pool, pool_of, index_names, index_number, vector, cu_list, types_list, symbol_table, shortcut, vector_bytes, gdb_index_bytes}
use Rattle.gdbindex_write.specs.declared.places.Slot.{Slot}
use Rattle.gdbindex_write.specs.declared.sizes.Sizes.{Sizes}
use Rattle.index_model.specs.WriteStops.{WriteStop, too_large}
use Rattle.ix_base.specs.declared.or_memory.OrMemory.TheVariants.{Memory}
use Rattle.gdbindex_write.specs.declared.symbols.Symbol.{Symbol}
use Rattle.gdbindex_write.specs.declared.symbols.Symbols.{Symbols}
use Rattle.gdbindex_write.specs.declared.vectors.Vectors.{Vectors}
use Rattle.gdbindex_write.specs.Addresses.{piece_bytes}
use Rattle.gdbindex_write.specs.Header.{header_bytes}
use Rattle.gdbindex_write.specs.Places.{numbered_bytes, places_of, shortcut_of}
use Rattle.gdbindex_write.specs.Pools.{pool_seen, vectors_seen}
use Rattle.gdbindex_write.specs.Sizes.{sizes_of, total, names_size}
use Rattle.gdbindex_write.specs.Slots.{numbers_in_slots}
use Rattle.gdbindex_write.specs.Symbols.{names_of, vectors_of, AreSymbolsOf}
use Rattle.gdbindex_write.specs.Vectors.{AreVectorsOf}
use Rattle.gdbindex_write.specs.Writable.{IsWritable}
use Rattle.gdbindex_write.proofs.DistinctLaws.{in_distinct, place_is}
use Rattle.gdbindex_write.proofs.SlotLaws.{slots_length_of}
use Rattle.gdbindex_write.proofs.UnitLaws.{area_is}
use Rattle.gdbindex_write.proofs.PoolLaws.{vector_is, own_names, own_pool, own_numbers}
use Rattle.gdbindex_write.proofs.PlaceLaws.{table_is, shortcut_is}
use Rattle.gdbindex_write.proofs.IndexLaws.{written_is, length_is}

module _ (units : List UnitHeader) (pieces : List UnitRange) (main : Option Main) (entries : List Entry) (version : ℕ) (writable : IsWritable units pieces main entries version)
    (numbers : List ℕ) (numbers_are : numbers ≡ map (index_number units) (below (length units)))
    (symbols : Symbols) (are : AreSymbolsOf numbers entries symbols) (vectors : Vectors) (those : AreVectorsOf (vectors_of symbols.elements.items symbols.list.items) vectors) where
  abbrev pool : Pool
  pool = pool_of units entries

  abbrev seen : Pool
  seen = pool_seen symbols.list.items vectors.distinct.items

  abbrev places : List Slot
  places = places_of symbols.list.items vectors.distinct.items vectors.numbers.items

  pool_is : pool_seen symbols.list.items vectors.distinct.items ≡ pool_of units entries
  pool_is = own_pool units entries numbers symbols are (vector_is units numbers numbers_are entries writable.entries_are) vectors those

  names_are : names_of symbols.list.items ≡ index_names entries
  names_are = own_names units entries numbers symbols are (vector_is units numbers numbers_are entries writable.entries_are)

  places_are : vectors.numbers.items ≡ map (λ w. place_of bytes_eq w (vectors_seen vectors.distinct.items)) (map (vector units entries) (names_of symbols.list.items))
  places_are = subst (λ (p : Pool). vectors.numbers.items ≡ map (λ w. place_of bytes_eq w p.vectors) (map (vector units entries) p.names)) (sym pool_is) (own_numbers units entries numbers symbols are (vector_is units numbers numbers_are entries writable.entries_are) vectors those)

  table_written : flat_map (numbered_bytes places) (numbers_in_slots (names_of symbols.list.items)) ≡ symbol_table units entries pool
  table_written = table_is units entries symbols.list.items vectors.distinct.items vectors.numbers.items names_are places_are ∙ ap (symbol_table units entries) pool_is

  short_written : shortcut_of version symbols.list.items places main ≡ cond (version == 9) (shortcut pool main) []
  short_written = ap (λ (w : List ℕ). cond (version == 9) w []) (shortcut_is units entries symbols.list.items vectors.distinct.items vectors.numbers.items names_are places_are main writable.main_is ∙ ap (λ (p : Pool). shortcut p main) pool_is)

  -- the sizes are those of the index's areas
  pub total_is : total version (sizes_of units pieces (pool_seen symbols.list.items vectors.distinct.items)) ≡ length (gdb_index_bytes units pieces main entries version)
  total_is = ap (λ (p : Pool). total version (sizes_of units pieces p)) pool_is ∙ sym (length_is units pieces main entries version writable.version_is)

  -- the parts one after the other are the index
  pub whole : (s : Sizes) → s ≡ sizes_of units pieces (pool_seen symbols.list.items vectors.distinct.items)
      → ((((((([] ++ header_bytes version s) ++ cu_list units) ++ types_list units) ++ flat_map (piece_bytes numbers) pieces) ++ flat_map (numbered_bytes (places_of symbols.list.items vectors.distinct.items vectors.numbers.items)) (numbers_in_slots (names_of symbols.list.items)))
      ++ shortcut_of version symbols.list.items (places_of symbols.list.items vectors.distinct.items vectors.numbers.items) main) ++ flat_map vector_bytes (vectors_seen vectors.distinct.items)) ++ flat_map ended (names_of symbols.list.items)
      ≡ gdb_index_bytes units pieces main entries version
  whole s is =
      let sizes = is ∙ ap (sizes_of units pieces) pool_is in
      let area = area_is units numbers pieces numbers_are writable.pieces_are in
      (λ i. ((((((([] ++ header_bytes version (sizes i)) ++ cu_list units) ++ types_list units) ++ area i) ++ table_written i) ++ short_written i) ++ flat_map vector_bytes (pool_is i).vectors) ++ flat_map ended (pool_is i).names)
      ∙ written_is units pieces main entries version writable.version_is

-- ---- numbers that are in range

-- each number is that of a distinct vector
pub numbers_within : (all : List (List ℕ)) (vectors : Vectors) → AreVectorsOf all vectors → All (λ n. n < length vectors.distinct.items) vectors.numbers.items
numbers_within all vectors are = λ k d lt.
    let ds : List (List ℕ) = distinct bytes_eq all in
    let size : length vectors.numbers.items ≡ length all = ap length are.numbers_are ∙ length-map all (λ w. place_of bytes_eq w ds) in
    let within : k < length all = omega (arith, lt, size) in
    let w : List ℕ = get_or all k [] in
    let at : get_or vectors.numbers.items k d ≡ place_of bytes_eq w ds = ap (λ (ns : List ℕ). get_or ns k d) are.numbers_are ∙ get_or-map (λ v. place_of bytes_eq v ds) all k [] d within in
    let some : list_any (bytes_eq w) ds ≡ true = in_distinct w all ∙ list_any_at (bytes_eq w) all k [] within (eq_from_same w w refl) in
    let count : length vectors.distinct.items ≡ length ds = sym (length-map vectors.distinct.items (λ v. v.now)) ∙ ap length are.distinct_are in
    omega (arith, at, place_is (bytes_eq w) ds some, position_within (bytes_eq w) ds some, count)

-- each number in a slot is that of a name
pub slots_within : (names : List (List ℕ)) (k n : ℕ) (d : Option ℕ) → k < length (numbers_in_slots names) → get_or (numbers_in_slots names) k d ≡ Some n → n < length names
slots_within names k n d lt is =
    let count : ℕ = slot_count (length names) in
    let ss : List ℕ = slots_of names in
    let within : k < count = omega (arith, lt, length-map-range_with_len (λ (s : ℕ). position (nat_eq s) ss) 0 count) in
    let at : get_or (numbers_in_slots names) k d ≡ position (nat_eq k) ss = get_or-map-range_with_len (λ (s : ℕ). position (nat_eq s) ss) 0 count k k d within (omega arith) in
    let p = position-Some (nat_eq k) ss n 0 (sym at ∙ is) in
    omega (arith, p.0, slots_length_of names)

-- there are no more symbols than bytes of names
pub count_le : (xs : List Symbol) → length xs ≤ names_size (names_of xs)
count_le [] = omega arith
count_le (x ∷ xs) = omega (arith, sum_by-cons (λ (n : List ℕ). length n + 1) x.name.now (names_of xs), count_le xs)

-- ---- stops

-- where memory was refused the index isn't too large
pub not_too_large : {A : Type 0} (r : Result A WriteStop) → IsErrAnd r (λ stop. stop ≡ Memory) → r ≡ Err too_large → ⊥
not_too_large (Ok x) memory large = memory
not_too_large (Err stop) memory large = let both : Memory ≡ too_large = cc in absurd cc
