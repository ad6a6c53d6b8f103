-- The answers of an index that was written, over lists of units, pieces and entries.
use Rattle.std.proofs.Common.{◌≡◌, ◌≢◌, ℕ, ◌+◌, ◌^◌, ◌<◌, Bool, true, false, not, ◌&&◌, leb, cond, List, [], ◌∷◌, length, get_or, map, Option, Some, None, Ok, refl, sym, ap, ◌∙◌, subst, arith, inl, inr}
use mathlib.Core.Bool.{true≢false}
use mathlib.Core.Logic.{◌⊎◌}
use Rattle.std.specs.Prelude.{flat_map, filter, bytes_eq, nat_lt, All, Contains, option_map}
use Rattle.std.specs.List.{list_any, position_or_len}
use Rattle.std.proofs.lemmas.List.{get_or_default}
use Rattle.std.proofs.lemmas.List.Sums.{passes_at_first}
use Rattle.std.proofs.lemmas.Bool.{and_parts, cases_Bool, not-true, le-leb}
use Rattle.std.proofs.lemmas.List.Folds.{list_any_at}
use Rattle.std.proofs.lemmas.Slice.Eq.{bytes_eq-Decides}
use Rattle.common_laws.proofs.Members.{contains_here, contains_later, to_map, to_filter}
use Rattle.common_laws.proofs.Lists.{position_within}
use Rattle.ix_base.specs.Reading.{◌>>=◌ as ◌>>=?◌}
use Rattle.index_model.specs.declared.answer.Main.{Main}
use Rattle.index_model.specs.declared.entry.Entry.{Entry}
use Rattle.index_model.specs.declared.range.UnitRange.{UnitRange}
use Rattle.index_model.specs.declared.unit.Unit.{Unit as UnitHeader}
use Rattle.index_model.specs.Ranges.{unit_at}
use Rattle.index_model.specs.Ordered.{ascending, bytes_lt}
use Rattle.index_model.specs.GdbIndex.{Pool, pool_of, pool_bytes, cu_list, types_list, address_area, symbol_table, shortcut, index_names, index_number, vector, element, gdb_index_bytes}
use Rattle.index_model.specs.GdbIndexRead.{GdbIndex, gdb_index, shortcut_at, gdb_index_hits, number_at, elements_of}
use Rattle.index_model.proofs.Orders.{bytes_order, ascending_has}
use Rattle.index_model.proofs.IndexSizes.{shortcut_size}
use Rattle.index_alike.proofs.GdbHeader.{Laid, laid_8, laid_9, whole_size}
use Rattle.index_alike.proofs.GdbAddresses.{IsWide, numbers_are}
use Rattle.index_alike.proofs.GdbPool.{names_of_pool}
use Rattle.index_alike.proofs.GdbFound.{all_read, name_hits, other_hits}
use Rattle.index_alike.proofs.GdbWhole.{AreMain, index_of, index_is, few_names, shortcut_is, no_shortcut}
use Rattle.index_alike.proofs.GdbPositions.{HasNoZero}

-- ---- names

-- the name of an entry that isn't a linkage entry is a name of the index
pub is_named : (entries : List Entry) (e : Entry) → Contains entries e → e.linkage ≡ false → Contains (index_names entries) e.name
unfolding index_names
is_named entries e c plain = ascending_has bytes_lt bytes_order (map (λ e. e.name) (filter (λ e. not e.linkage) entries)) e.name (to_map (λ (e : Entry). e.name) (filter (λ e. not e.linkage) entries) e (to_filter (λ (e : Entry). not e.linkage) entries e c (ap not plain)))

filter_none : {A : Type 0} (p : A → Bool) (xs : List A) → ((x : A) → Contains xs x → p x ≡ true → ⊥) → filter p xs ≡ []
filter_none p [] none = refl
filter_none {A = A} p (x ∷ xs) none = elim (p x) as (λ b. p x ≡ b → cond b (x ∷ filter p xs) (filter p xs) ≡ []) [
  | true ↦ λ is. absurd (none x (contains_here x xs) is)
  | false ↦ λ _. filter_none p xs (λ y c is. none y (contains_later x xs y c) is)
] refl

-- a name that isn't one of the index has no elements
no_elements : (units : List UnitHeader) (entries : List Entry) (name : List ℕ) → (Contains (index_names entries) name → ⊥) → vector units entries name ≡ []
unfolding vector ascending
no_elements units entries name none = ap (λ (es : List Entry). ascending nat_lt (map (element units) es)) (filter_none (λ e. not e.linkage && bytes_eq e.name name) entries (λ e c is.
    let p = and_parts (not e.linkage) (bytes_eq e.name name) is in
    none (subst (Contains (index_names entries)) ((bytes_eq-Decides e.name name).0 p.1) (is_named entries e c (not-true e.linkage p.0)))))

-- ---- answers

-- what an index answers of these units, pieces and entries
pub record Answers (units : List UnitHeader) (pieces : List UnitRange) (entries : List Entry) (index : GdbIndex) : Type 0 where
  pub hits : (name : List ℕ) → gdb_index_hits index name ≡ vector units entries name
  pub numbers : (a : ℕ) → number_at index a ≡ option_map (index_number units) (unit_at pieces a)

-- the bytes are an index without a fault that answers so and has this shortcut
pub record Reads (units : List UnitHeader) (pieces : List UnitRange) (entries : List Entry) (main : Option Main) (bytes : List ℕ) : Type 0 where
  pub index : GdbIndex
  pub is : gdb_index bytes ≡ Ok index
  pub answers : Answers units pieces entries index
  pub main_is : index.main ≡ main

-- what an index can be read of that was written of it
pub record Fit (units : List UnitHeader) (pieces : List UnitRange) (entries : List Entry) (main : Option Main) : Type 0 where
  pub some : 0 < length units
  pub wide : All IsWide pieces
  pub clean : (name : List ℕ) → Contains (index_names entries) name → HasNoZero name
  pub main_is : AreMain (pool_of units entries) main

module _ (units : List UnitHeader) (pieces : List UnitRange) (entries : List Entry) (main : Option Main) (fit : Fit units pieces entries main) where
  abbrev pool : Pool
  pool = pool_of units entries

  clean_pool : (name : List ℕ) → Contains pool.names name → HasNoZero name
  clean_pool name c = fit.clean name (subst (λ (ns : List (List ℕ)). Contains ns name) (names_of_pool units entries) c)

  module _ (bytes short : List ℕ) (laid : Laid bytes (cu_list units) (types_list units) (address_area units pieces) (symbol_table units entries pool) short (pool_bytes pool))
      (small : length (cu_list units) + length (types_list units) + length (symbol_table units entries pool) + length (pool_bytes pool) < 2 ^ 32) where
    abbrev short_names : length pool.names < 2 ^ 60
    short_names = few_names units entries pieces fit.some fit.wide clean_pool bytes short laid small

    abbrev index : Option Main → GdbIndex
    index m = index_of units entries pieces fit.some fit.wide clean_pool bytes short laid small m

    hits_are : (m : Option Main) (name : List ℕ) → gdb_index_hits (index m) name ≡ vector units entries name
    hits_are m name = by (cases_Bool (list_any (bytes_eq name) pool.names))
      where
        by : (list_any (bytes_eq name) pool.names ≡ true) ⊎ (list_any (bytes_eq name) pool.names ≡ false) → gdb_index_hits (index m) name ≡ vector units entries name
        by (inl there) =
            let k = some_place pool.names there in
            subst (λ (n : List ℕ). flat_map (elements_of n) (all_read units entries short_names laid.found.table.at) ≡ vector units entries n) k.2 (name_hits units entries short_names laid.found.table.at k.0 k.1)
          where
            some_place : (ns : List (List ℕ)) → list_any (bytes_eq name) ns ≡ true → (k : ℕ) × (k < length ns) × (get_or ns k [] ≡ name)
            some_place ns there = (position_or_len (bytes_eq name) ns, position_within (bytes_eq name) ns there, sym ((bytes_eq-Decides name (get_or ns (position_or_len (bytes_eq name) ns) [])).0 (passes_at_first (bytes_eq name) ns [] (position_within (bytes_eq name) ns there))))
        by (inr missing) =
            let not_there : (k : ℕ) → k < length pool.names → get_or pool.names k [] ≢ name = λ k lt same. true≢false (sym (list_any_at (bytes_eq name) pool.names k [] lt ((bytes_eq-Decides name (get_or pool.names k [])).1 (sym same))) ∙ missing) in
            other_hits units entries short_names laid.found.table.at name not_there
            ∙ sym (no_elements units entries name (λ c. let d = subst (λ (ns : List (List ℕ)). Contains ns name) (sym (names_of_pool units entries)) c in
            not_there d.0 d.1 (get_or_default pool.names d.0 [] name d.1 ∙ d.2)))

    reads : (m : Option Main) → shortcut_at laid.found ≡ Ok m → Reads units pieces entries m bytes
    reads m is = record {
      index = index m;
      is = index_is units entries pieces fit.some fit.wide clean_pool bytes short laid small m is;
      answers = record { hits = hits_are m; numbers = numbers_are units pieces };
      main_is = refl;
    }

  pub reads_8 : length (gdb_index_bytes units pieces main entries 8) < 2 ^ 32 → Reads units pieces entries None (gdb_index_bytes units pieces main entries 8)
  unfolding gdb_index_bytes
  reads_8 small =
      let size = whole_size 8 (cu_list units ∷ types_list units ∷ address_area units pieces ∷ symbol_table units entries pool ∷ pool_bytes pool ∷ []) small in
      let laid = laid_8 (cu_list units) (types_list units) (address_area units pieces) (symbol_table units entries pool) (pool_bytes pool) small in
      reads (gdb_index_bytes units pieces main entries 8) [] laid (omega (arith, size, small)) None (no_shortcut laid.found laid.shortcut_is)

  pub reads_9 : length (gdb_index_bytes units pieces main entries 9) < 2 ^ 32 → Reads units pieces entries main (gdb_index_bytes units pieces main entries 9)
  unfolding gdb_index_bytes
  reads_9 small =
      let size = whole_size 9 (cu_list units ∷ types_list units ∷ address_area units pieces ∷ symbol_table units entries pool ∷ shortcut pool main ∷ pool_bytes pool ∷ []) small in
      let laid = laid_9 (cu_list units) (types_list units) (address_area units pieces) (symbol_table units entries pool) (shortcut pool main) (pool_bytes pool) (omega (arith, shortcut_size pool main)) small in
      let low : length (cu_list units) + length (types_list units) + length (symbol_table units entries pool) + length (pool_bytes pool) < 2 ^ 32 = omega (arith, size, small) in
      reads (gdb_index_bytes units pieces main entries 9) (shortcut pool main) laid low main (shortcut_is units entries pieces fit.some fit.wide clean_pool (gdb_index_bytes units pieces main entries 9) (shortcut pool main) laid low main fit.main_is refl)

-- main as it is looked up
pub main_reads : (units : List UnitHeader) (entries : List Entry) (main : Option Main) → AreMain (pool_of units entries) main → (main >>=? λ m. cond (leb m.language 65535) (Some m) None) ≡ main
main_reads units entries None are = refl
main_reads units entries (Some m) are = ap (λ (b : Bool). cond b (Some m) None) (le-leb m.language 65535 (omega (arith, are.low)))
