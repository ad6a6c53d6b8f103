-- An index that was written reads as an index without a fault.
use Rattle.std.proofs.Common.{◌≡◌, ℕ, zero, suc, ◌+◌, ◌*◌, ◌/◌, ◌%◌, ◌^◌, ◌<◌, ◌≤◌, Bool, true, false, ◌&&◌, leb, eqb, cond, List, [], ◌∷◌, length, get_or, map, find, Option, Some, None, unwrap_or, Result, Ok, refl, sym, ap, ◌∙◌, subst, arith, inl, inr}
use mathlib.Core.Bool.{◌||◌}
use mathlib.Core.Logic.{◌⊎◌}
use Rattle.std.specs.Prelude.{flat_map, All, Contains, ⊤}
use Rattle.std.specs.List.{list_any, enumerate_from, range_with_len}
use Rattle.std.proofs.lemmas.Bool.{and_from, or_right, eq-eqb, ne_eqb, cases_lt}
use Rattle.std.proofs.Math.Nat.{pow-le-pow_right}
use Rattle.std.proofs.lemmas.List.{length-append}
use Rattle.std.proofs.lemmas.List.Folds.{list_any_at}
use Rattle.std.proofs.lemmas.List.FromFn.{length-range_with_len, get_or-range_with_len}
use Rattle.ix_base.specs.declared.fault.Fault.{Fault}
use Rattle.index_model.specs.declared.answer.Main.{Main}
use Rattle.index_model.specs.declared.entry.Entry.{Entry}
use Rattle.index_model.specs.declared.index_code.TheConstants.{GDB_TABLE_SIZE, GDB_BAD_NAME}
use Rattle.index_model.specs.declared.range.UnitRange.{UnitRange}
use Rattle.index_model.specs.declared.unit.Unit.{Unit as UnitHeader}
use Rattle.index_model.specs.Layout.{below, field, u32_bytes, ended}
use Rattle.index_model.specs.Meaning.{◌>>=◌, ◌>>◌, fault, holds_or, some_or, each}
use Rattle.index_model.specs.GdbSlots.{slot_count}
use Rattle.index_model.specs.GdbIndex.{Pool, pool_of, pool_bytes, cu_list, types_list, address_area, symbol_table, shortcut, name_place, vector_bytes}
use Rattle.index_model.specs.GdbAreas.{Areas, areas, items, string_at}
use Rattle.index_model.specs.GdbIndexRead.{Address, Slot, GdbIndex, gdb_index, whole_items, is_table_size, slot_at, shortcut_at, reached}
use Rattle.index_model.proofs.IndexSizes.{size_4}
use Rattle.index_alike.proofs.GdbPlaces.{stands_at, field_is, stands_first, stands_last}
use Rattle.index_alike.proofs.GdbHeader.{Laid}
use Rattle.index_alike.proofs.GdbUnits.{few_units}
use Rattle.index_alike.proofs.GdbAddresses.{IsWide, address_of, addresses_are, whole_items_are}
use Rattle.index_alike.proofs.GdbTable.{table_size, slots_are, name_reads, name_low}
use Rattle.index_alike.proofs.GdbFound.{all_read, all_reached}
use Rattle.index_alike.proofs.GdbPositions.{HasNoZero}
use Rattle.index_alike.proofs.GdbSteps.{bind_is, then_is, some_is}

-- ---- the size of the table

power_found : (p : ℕ → Bool) (a n x : ℕ) → find p (map (λ k. 2 ^ k) (range_with_len a n)) ≡ Some x → (k : ℕ) × (x ≡ 2 ^ k)
power_found p a zero x e = absurd cc
power_found p a (suc n) x e = elim (p (2 ^ a)) as (λ b. cond b (Some (2 ^ a)) (find p (map (λ k. 2 ^ k) (range_with_len (a + 1) n))) ≡ Some x → (k : ℕ) × (x ≡ 2 ^ k)) [
  | true ↦ λ found. (a, let same : 2 ^ a ≡ x = cc in sym same)
  | false ↦ λ more. power_found p (a + 1) n x more
] e

-- none or a power of two
count_power : (n : ℕ) → (slot_count n ≡ 0) ⊎ ((k : ℕ) × (slot_count n ≡ 2 ^ k))
unfolding slot_count
count_power n = by (eqb n 0)
  where
    tried : List ℕ
    tried = map (λ k. 2 ^ k) (below 64)

    enough : ℕ → Bool
    enough s = leb (4 * n) (3 * s)

    some : (o : Option ℕ) → find enough tried ≡ o → (unwrap_or o 0 ≡ 0) ⊎ ((k : ℕ) × (unwrap_or o 0 ≡ 2 ^ k))
    some None e = inl refl
    some (Some x) e = inr (power_found enough 0 64 x e)

    by : (b : Bool) → (cond b 0 (unwrap_or (find enough tried) 0) ≡ 0) ⊎ ((k : ℕ) × (cond b 0 (unwrap_or (find enough tried) 0) ≡ 2 ^ k))
    by true = inl refl
    by false = some (find enough tried) refl

power_low : (k : ℕ) → 2 ^ k < 2 ^ 32 → k < 32
power_low k lt = by (cases_lt k 32)
  where
    by : (k < 32) ⊎ (32 ≤ k) → k < 32
    by (inl less) = less
    by (inr le) = absurd (omega (arith, lt, pow-le-pow_right {n = 2} (omega arith) le))

table_size_is : (n : ℕ) → slot_count n < 2 ^ 32 → is_table_size (slot_count n) ≡ true
unfolding is_table_size
table_size_is n lt = by (slot_count n) (count_power n) lt
  where
    by : (s : ℕ) → (s ≡ 0) ⊎ ((k : ℕ) × (s ≡ 2 ^ k)) → s < 2 ^ 32 → (eqb s 0 || list_any (λ k. eqb s (2 ^ k)) (below 32)) ≡ true
    by s (inl none) lt = ap (λ (b : Bool). b || list_any (λ k. eqb s (2 ^ k)) (below 32)) (eq-eqb s 0 none)
    by s (inr p) lt =
        let low : p.0 < 32 = power_low p.0 (subst (λ (x : ℕ). x < 2 ^ 32) p.1 lt) in
        let at : get_or (below 32) p.0 0 ≡ p.0 = get_or-range_with_len 0 32 p.0 0 low ∙ omega arith in
        or_right (eqb s 0) (list_any (λ k. eqb s (2 ^ k)) (below 32)) (list_any_at (λ k. eqb s (2 ^ k)) (below 32) p.0 0 (omega (arith, low, length-range_with_len 0 32)) (eq-eqb s (2 ^ get_or (below 32) p.0 0) (p.1 ∙ ap (λ (k : ℕ). 2 ^ k) (sym at))))

-- ---- main

pub no_shortcut : (a : Areas) → a.shortcut.rest ≡ [] → shortcut_at a ≡ Ok None
unfolding shortcut_at
no_shortcut a is = ap (λ (w : List ℕ). cond (eqb (field 4 0 w) 0) (Ok None) (some_or (string_at a (field 4 4 w)) (fault GDB_BAD_NAME a.shortcut.at) >>= λ name. Ok (Some (record { language = field 4 0 w; name = name })))) is

-- main has a language of 16 bits, and the name of an entry of the index
pub record IsMain (pool : Pool) (m : Main) : Type 0 where
  pub some : 0 < m.language
  pub low : m.language < 2 ^ 16
  pub named : Contains pool.names m.name

abbrev pub AreMain : Pool → Option Main → Type 0
AreMain pool None = ⊤
AreMain pool (Some m) = IsMain pool m

-- ---- the whole index

-- names with their zeros have a byte each at least
pub names_low : (names : List (List ℕ)) → length names ≤ length (flat_map ended names)
names_low [] = omega arith
names_low (n ∷ ns) = omega (arith, length-append (ended n) (flat_map ended ns), length-append n (0 ∷ []), names_low ns)

module _ (units : List UnitHeader) (entries : List Entry) (pieces : List UnitRange) (some : 0 < length units) (wide : All IsWide pieces) (clean : (name : List ℕ) → Contains (pool_of units entries).names name → HasNoZero name)
    (bytes short : List ℕ) (laid : Laid bytes (cu_list units) (types_list units) (address_area units pieces) (symbol_table units entries (pool_of units entries)) short (pool_bytes (pool_of units entries)))
    (small : length (cu_list units) + length (types_list units) + length (symbol_table units entries (pool_of units entries)) + length (pool_bytes (pool_of units entries)) < 2 ^ 32) where
  abbrev pool : Pool
  pool = pool_of units entries

  abbrev a : Areas
  a = laid.found

  few : length units < 2 ^ 28
  few = omega (arith, few_units units, small)

  pub few_names : length pool.names < 2 ^ 60
  few_names = omega (arith, names_low pool.names, length-append (flat_map vector_bytes pool.vectors) (flat_map ended pool.names), small)

  pool_small : length (pool_bytes pool) < 2 ^ 32
  pool_small = omega (arith, small)

  abbrev pub index_of : Option Main → GdbIndex
  index_of main = record { addresses = map (address_of units) pieces; slots = all_read units entries few_names a.table.at; main = main }

  pub shortcut_is : (main : Option Main) → AreMain pool main → short ≡ shortcut pool main → shortcut_at a ≡ Ok main
  unfolding shortcut_at
  shortcut_is None are is = ap (λ (w : List ℕ). cond (eqb (field 4 0 w) 0) (Ok None) (some_or (string_at a (field 4 4 w)) (fault GDB_BAD_NAME a.shortcut.at) >>= λ name. Ok (Some (record { language = field 4 0 w; name = name })))) (laid.shortcut_is ∙ is)
  shortcut_is (Some m) are is =
      let w : List ℕ = shortcut pool (Some m) in
      let language : field 4 0 w ≡ m.language = field_is 4 m.language 0 (stands_first (u32_bytes m.language) (u32_bytes (name_place pool m.name))) (omega (arith, are.low)) in
      let place : field 4 4 w ≡ name_place pool m.name = field_is 4 (name_place pool m.name) 4 (stands_at (size_4 m.language) (stands_last (u32_bytes m.language) (u32_bytes (name_place pool m.name)))) (name_low units entries few some few_names pool_small clean a laid.cus_are laid.types_are laid.pool_is m.name are.named) in
      let text : string_at a (field 4 4 w) ≡ Some m.name = ap (string_at a) place ∙ name_reads units entries few some few_names pool_small clean a laid.cus_are laid.types_are laid.pool_is m.name are.named in
      let full : eqb (field 4 0 w) 0 ≡ false = ne_eqb (field 4 0 w) 0 (λ none. omega (arith, none, language, are.some)) in
      ap read_short (laid.shortcut_is ∙ is)
      ∙ ap (λ (b : Bool). cond b (Ok None) (behind w)) full
      ∙ some_is (string_at a (field 4 4 w)) (fault GDB_BAD_NAME a.shortcut.at) (λ name. Ok (Some (record { language = field 4 0 w; name = name }))) m.name (Ok (Some m)) text (λ i. Ok (Some (record { language = language i; name = m.name })))
    where
      behind : List ℕ → Result (Option Main) Fault
      behind w = some_or (string_at a (field 4 4 w)) (fault GDB_BAD_NAME a.shortcut.at) >>= λ name. Ok (Some (record { language = field 4 0 w; name = name }))

      read_short : List ℕ → Result (Option Main) Fault
      read_short w = cond (eqb (field 4 0 w) 0) (Ok None) (behind w)

  with_main : List Address → List (Option Slot) → Option Main → Result GdbIndex Fault
  with_main addresses slots main = each (reached slots) (enumerate_from 0 slots) >> Ok (record { addresses = addresses; slots = slots; main = main })

  with_slots : Areas → List Address → List (Option Slot) → Result GdbIndex Fault
  with_slots a addresses slots = shortcut_at a >>= with_main addresses slots

  is_whole : Areas → Bool
  is_whole a = eqb (length a.table.rest % 8) 0 && is_table_size (length a.table.rest / 8)

  with_addresses : Areas → List Address → Result GdbIndex Fault
  with_addresses a addresses = holds_or (is_whole a) (fault GDB_TABLE_SIZE a.table.at) >> (each (slot_at a) (items 8 a.table) >>= with_slots a addresses)

  with_areas : Areas → Result GdbIndex Fault
  with_areas a = whole_items a >>= with_addresses a

  whole : is_whole a ≡ true
  unfolding is_whole
  whole =
      let size : length a.table.rest ≡ 8 * slot_count (length pool.names) = ap length laid.table_is ∙ table_size units entries in
      let low : slot_count (length pool.names) < 2 ^ 32 = omega (arith, table_size units entries, small) in
      let slots : length a.table.rest / 8 ≡ slot_count (length pool.names) = omega (arith, size) in
      and_from (eqb (length a.table.rest % 8) 0) (is_table_size (length a.table.rest / 8)) (eq-eqb (length a.table.rest % 8) 0 (omega (arith, size))) (ap (λ (n : ℕ). is_table_size n) slots ∙ table_size_is (length pool.names) low)

  pub index_is : (main : Option Main) → shortcut_at a ≡ Ok main → gdb_index bytes ≡ Ok (index_of main)
  unfolding gdb_index with_main with_slots is_whole with_addresses with_areas
  index_is main is =
      let addresses : List Address = map (address_of units) pieces in
      let slots : List (Option Slot) = all_read units entries few_names a.table.at in
      let entries_are = addresses_are units few some a laid.cus_are laid.types_are pieces wide laid.addresses_are in
      let items_are = whole_items_are units a laid.cus_are laid.types_are pieces laid.addresses_are addresses entries_are in
      let made : Result GdbIndex Fault = Ok (index_of main) in
      bind_is (areas bytes) with_areas a made laid.is
      (bind_is (whole_items a) (with_addresses a) addresses made items_are
      (then_is (is_whole a) (fault GDB_TABLE_SIZE a.table.at) (each (slot_at a) (items 8 a.table) >>= with_slots a addresses) made whole
      (bind_is (each (slot_at a) (items 8 a.table)) (with_slots a addresses) slots made (slots_are units entries few some few_names pool_small clean a laid.cus_are laid.types_are laid.pool_is laid.table_is)
      (bind_is (shortcut_at a) (with_main addresses slots) main made is
      (ap (λ (r : Result (List (record {})) Fault). r >> made) (all_reached units entries few_names a.table.at))))))
