-- An accepted file's index reads alike.
use Rattle.std.proofs.Common.{◌≡◌, ℕ, zero, suc, ◌-◌, ◌<◌, ◌≤◌, ◌^◌, Bool, true, false, not, ◌&&◌, cond, leb, ltb, eqb, List, [], ◌∷◌, length, get_or, map, find, Option, Some, None, Result, Ok, Err, refl, sym, ap, ◌∙◌, subst, arith}
use Rattle.std.specs.Prelude.{Contains, filter, flat_map, option_map}
use Rattle.std.proofs.lemmas.Bool.{and_parts, leb-true, ltb-true, not-true}
use Rattle.std.proofs.lemmas.List.{length-map, nil_from_length}
use Rattle.std.proofs.lemmas.List.Elements.{Contains-get_or}
use Rattle.std.proofs.lemmas.Option.{same_Some}
use Rattle.common_laws.proofs.Members.{of_map, of_filter, of_flat_map}
use Rattle.ix_base.specs.declared.fault.Fault.{Fault}
use Rattle.ix_base.specs.Reading.{◌>>=◌ as ◌>>=?◌}
use Rattle.index_model.specs.declared.answer.Main.{Main}
use Rattle.index_model.specs.declared.entry.Entry.{Entry}
use Rattle.index_model.specs.declared.range.Range.{Range}
use Rattle.index_model.specs.declared.range.UnitRange.{UnitRange}
use Rattle.index_model.specs.declared.unit.Unit.{Unit as UnitHeader}
use Rattle.index_model.specs.Meaning.{◌>>=◌, at_place, each}
use Rattle.index_model.specs.Attributes.{low_pc, high_pc, ranges_value}
use Rattle.index_model.specs.Walk.{Item}
use Rattle.index_model.specs.Program.{Walked, Program, root_of}
use Rattle.index_model.specs.Links.{Link, links_in, followed, link_of}
use Rattle.index_model.specs.Ranges.{ranges_by, is_kept, entry_ranges, entries_with_ranges, ranges_of, unit_ranges, ranges_in, contains, unit_at}
use Rattle.index_model.specs.Pieces.{pieces, between}
use Rattle.index_model.specs.Ordered.{ascending, bytes_lt, distinct}
use Rattle.index_model.specs.Entries.{entries_of}
use Rattle.index_model.specs.MainProgram.{main_in, main_of}
use Rattle.index_model.specs.Faults.{Built, program_of, links_of, all_ranges, built_of}
use Rattle.index_model.specs.Answers.{entries_in}
use Rattle.index_model.specs.Cache.{GdbBytes, DoesNotFit, gdb_cache, cache_of, cache_in}
use Rattle.index_model.specs.GdbSlots.{slot_count, slots_of, slots_behind}
use Rattle.index_model.specs.GdbIndex.{pool_of, index_names, index_number, vector, symbol_table, gdb_index_bytes}
use Rattle.index_model.specs.GdbAreas.{areas, areas_at, offsets_from, version_of}
use Rattle.index_model.specs.GdbIndexRead.{gdb_index, whole_items, is_table_size, shortcut_at}
use Rattle.index_model.proofs.Meanings.{bind_ok, same_ok}
use Rattle.index_model.proofs.Scans.{AreScans, program_parts}
use Rattle.index_model.proofs.PieceLaws.{pieces_are}
use Rattle.index_model.proofs.MaximalLaws.{pieces_are_maximal}
use Rattle.index_model.proofs.Orders.{bytes_order, ascending_only}
use Rattle.index_alike.specs.GdbAlike.{units_in, ReadsAs, GdbIndex8ReadsAlike, GdbIndex9ReadsAlike}
use Rattle.index_alike.proofs.GdbAddresses.{IsWide}
use Rattle.index_alike.proofs.GdbChains.{find_member}
use Rattle.index_alike.proofs.GdbEntries.{of_each, entry_clean, main_is_of}
use Rattle.index_alike.proofs.GdbLists.{Reads, Fit, is_named, reads_8, reads_9, main_reads}
use Rattle.index_alike.proofs.GdbPool.{names_of_pool}
use Rattle.index_alike.proofs.GdbPositions.{HasNoZero}
use Rattle.index_alike.proofs.GdbWhole.{AreMain}

-- ---- pieces have ends of 8 bytes

module _ (p : Program) (ks : List Link) where
  entry_kept : (w : Walked) (d : Item) (rs : List Range) → entry_ranges p.sections w d ≡ Ok rs → (r : Range) → Contains rs r → is_kept r ≡ true
  unfolding entry_ranges
  entry_kept w d rs is r c = by (ranges_by p.sections w (ranges_value w.unit.version d) (low_pc d) (high_pc d)) is
    where
      by : (o : Result (List Range) ℕ) → at_place d.at (o >>= λ rs. Ok (filter is_kept rs)) ≡ Ok rs → is_kept r ≡ true
      by (Ok all) is = (of_filter is_kept all r (subst (λ (x : List Range). Contains x r) (sym (same_ok {E = Fault} (filter is_kept all) rs is)) c)).1
      by (Err code) is = absurd cc

  unit_kept : (w : Walked) (rs : List UnitRange) → unit_ranges p ks w ≡ Ok rs → (u : UnitRange) → Contains rs u → is_kept u.range ≡ true
  unfolding unit_ranges ranges_of
  unit_kept w rs is u c =
      let a = bind_ok (each (entry_ranges p.sections w) (entries_with_ranges ks w (root_of w)) >>= λ rs. Ok (flat_map (λ r. r) rs)) (λ rs. Ok (map (λ r. record { unit = w.number; range = r }) rs)) rs is in
      let b = bind_ok (each (entry_ranges p.sections w) (entries_with_ranges ks w (root_of w))) (λ rs. Ok (flat_map (λ r. r) rs)) a.0 a.1 in
      let made : Range → UnitRange = λ r. record { unit = w.number; range = r } in
      let m = of_map made a.0 u (subst (λ (x : List UnitRange). Contains x u) (sym (same_ok {E = Fault} (map made a.0) rs a.2)) c) in
      let n = of_flat_map (λ (r : List Range). r) b.0 m.0 (subst (λ (x : List Range). Contains x m.0) (sym (same_ok {E = Fault} (flat_map (λ r. r) b.0) a.0 b.2)) m.1) in
      let e = of_each (entry_ranges p.sections w) (entries_with_ranges ks w (root_of w)) b.0 b.1 n.0 n.1 in
      ap (λ (v : UnitRange). is_kept v.range) (sym m.2) ∙ entry_kept w e.0 n.0 e.2 m.0 n.2

  all_kept : (rs : List UnitRange) → all_ranges p ks ≡ Ok rs → (u : UnitRange) → Contains rs u → is_kept u.range ≡ true
  unfolding all_ranges ranges_in
  all_kept rs is u c =
      let a = bind_ok (each (unit_ranges p ks) p.walks) (λ rs. Ok (flat_map (λ r. r) rs)) rs is in
      let m = of_flat_map (λ (r : List UnitRange). r) a.0 u (subst (λ (x : List UnitRange). Contains x u) (sym (same_ok {E = Fault} (flat_map (λ r. r) a.0) rs a.2)) c) in
      let e = of_each (unit_ranges p ks) p.walks a.0 a.1 m.0 m.1 in
      unit_kept e.0 m.0 e.2 u m.2

kept_end : (r : Range) → is_kept r ≡ true → r.end < 2 ^ 64
kept_end r is =
    let top : leb r.end (2 ^ 64 - 1) ≡ true = (and_parts (not (eqb r.low 0) && ltb r.low (2 ^ 64 - 1 - 1) && ltb r.low r.end) (leb r.end (2 ^ 64 - 1)) is).1 in
    omega (arith, leb-true r.end (2 ^ 64 - 1) top)

find_passes : {A : Type 0} (p : A → Bool) (xs : List A) (x : A) → find p xs ≡ Some x → p x ≡ true
find_passes p [] x e = absurd cc
find_passes {A = A} p (y ∷ ys) x e = elim (p y) as (λ b. p y ≡ b → cond b (Some y) (find p ys) ≡ Some x → p x ≡ true) [
  | true ↦ λ is here. subst (λ (z : A). p z ≡ true) (same_Some y x here) is
  | false ↦ λ _ more. find_passes p ys x more
] refl e

-- where a unit is at an address there is a range that ends behind it
ends_behind : (rs : List UnitRange) (a n : ℕ) → unit_at rs a ≡ Some n → (u : UnitRange) × Contains rs u × (a < u.range.end)
unfolding unit_at
ends_behind rs a n is = by (find (λ u. contains a u.range) rs) refl is
  where
    by : (o : Option UnitRange) → find (λ u. contains a u.range) rs ≡ o → option_map (λ (u : UnitRange). u.unit) o ≡ Some n → (u : UnitRange) × Contains rs u × (a < u.range.end)
    by None e is = absurd cc
    by (Some u) e is =
        let passes = and_parts (leb u.range.low a) (ltb a u.range.end) (find_passes (λ u. contains a u.range) rs u e) in
        (u, find_member (λ u. contains a u.range) rs u e, ltb-true a u.range.end passes.1)

piece_wide : (rs : List UnitRange) → ((u : UnitRange) → Contains rs u → is_kept u.range ≡ true) → (p : UnitRange) → Contains (pieces rs) p → IsWide p
piece_wide rs kept p c =
    let m = (pieces_are_maximal rs p).0 c in
    let last : p.range.end - 1 < p.range.end = omega (arith, m.some) in
    let from : p.range.low ≤ p.range.end - 1 = omega (arith, m.some) in
    let u = ends_behind rs (p.range.end - 1) p.unit (m.inside (p.range.end - 1) from last) in
    let end = kept_end u.0.range (kept u.0 u.1) in
    (omega (arith, m.some, u.2, end), omega (arith, m.some, u.2, end))

-- ---- the bytes that fit

pub cache_fits : (x bytes : List ℕ) → gdb_cache x ≡ GdbBytes bytes → (length x < 2 ^ 32) × (x ≡ bytes)
cache_fits x bytes is = by (leb (length x) 4294967295) refl is
  where
    by : (c : Bool) → leb (length x) 4294967295 ≡ c → cond c (GdbBytes x) DoesNotFit ≡ GdbBytes bytes → (length x < 2 ^ 32) × (x ≡ bytes)
    by true e is = (omega (arith, leb-true (length x) 4294967295 e), cc)
    by false e is = absurd cc

-- ---- the parts of an accepted file

pub record IsMade (b : Built) : Type 0 where
  units : List UnitHeader
  scans : AreScans b.program.sections 0 units b.program.walks
  links : links_in b.program b.program.walks ≡ Ok b.links
  ranges : all_ranges b.program b.links ≡ Ok b.ranges

pub is_made : (file : List ℕ) (b : Built) → built_of file ≡ Ok b → IsMade b
unfolding built_of links_of
is_made file b is =
    let p = bind_ok (program_of file) _ b is in
    let k = bind_ok (links_of p.0) _ b p.2 in
    let r = bind_ok (all_ranges p.0 k.0) _ b k.2 in
    let parts = program_parts file p.0 p.1 in
    subst IsMade (same_ok {E = Fault} (record { program = p.0; links = k.0; ranges = r.0 }) b r.2) (record { units = parts.0; scans = parts.3; links = k.1; ranges = r.1 })

-- entries and a main of an accepted file, with which an index can be read; a file without units has none
pub record AreReadable (b : Built) (entries : List Entry) (main : Option Main) : Type 0 where
  pub clean : (name : List ℕ) → Contains (index_names entries) name → HasNoZero name
  pub main_is : AreMain (pool_of (units_in b) entries) main
  pub no_entries : b.program.walks ≡ [] → entries ≡ []
  pub no_main : b.program.walks ≡ [] → main ≡ None

module _ (b : Built) (made : IsMade b) where
  abbrev own_units : List UnitHeader
  own_units = units_in b

  abbrev own_pieces : List UnitRange
  own_pieces = pieces b.ranges

  abbrev own_entries : List Entry
  own_entries = entries_in b

  abbrev own_main : Option Main
  own_main = main_of b.program b.links

  names_clean : (name : List ℕ) → Contains (index_names own_entries) name → HasNoZero name
  unfolding index_names
  names_clean name c =
      let m = of_map (λ (e : Entry). e.name) (filter (λ e. not e.linkage) own_entries) name (ascending_only bytes_lt bytes_order (map (λ e. e.name) (filter (λ e. not e.linkage) own_entries)) name c) in
      let f = of_filter (λ (e : Entry). not e.linkage) own_entries m.0 m.1 in
      subst HasNoZero m.2 (entry_clean b.program made.units made.scans b.links made.links m.0 f.0 (not-true m.0.linkage f.1))

  main_there : (o : Option Main) → own_main ≡ o → AreMain (pool_of own_units own_entries) o
  main_there None e = tt
  main_there (Some m) e =
      let i = main_is_of b.program made.units made.scans b.links m e in
      let named : Contains (index_names own_entries) m.name = subst (λ (n : List ℕ). Contains (index_names own_entries) n) i.named (is_named own_entries i.entry i.there i.plain) in
      record { some = i.some; low = i.low; named = subst (λ (ns : List (List ℕ)). Contains ns m.name) (sym (names_of_pool own_units own_entries)) named }

  -- main's language
  pub language_fits : (m : Main) → own_main ≡ Some m → (0 < m.language) × (m.language < 2 ^ 16)
  language_fits m e = let i = main_is_of b.program made.units made.scans b.links m e in (i.some, i.low)

  -- ---- a file without units

  no_walks : (ws : List Walked) → length (map (λ w. w.unit) ws) ≡ 0 → ws ≡ []
  no_walks ws none = nil_from_length ws (sym (length-map ws (λ w. w.unit)) ∙ none)

  no_links : b.program.walks ≡ [] → b.links ≡ []
  unfolding links_in
  no_links none = sym (same_ok {E = Fault} [] b.links (sym (ap (λ (ws : List Walked). each (λ d. at_place d.item.at (link_of b.program d)) (flat_map (followed b.program) ws)) none) ∙ made.links))

  no_ranges : b.program.walks ≡ [] → b.ranges ≡ []
  unfolding all_ranges ranges_in
  no_ranges none = sym (same_ok {E = Fault} [] b.ranges (sym (ap (λ (ws : List Walked). each (unit_ranges b.program b.links) ws >>= λ rs. Ok (flat_map (λ r. r) rs)) none) ∙ made.ranges))

  no_entries : b.links ≡ [] → own_entries ≡ []
  unfolding entries_of
  no_entries none = ap (λ (ks : List Link). entries_of b.program ks) none

  main_of_none : b.links ≡ [] → own_main ≡ None
  unfolding main_of main_in
  main_of_none none = ap (λ (ks : List Link). main_of b.program ks) none

  pub no_main : b.program.walks ≡ [] → own_main ≡ None
  no_main none = main_of_none (no_links none)

  no_pieces : b.ranges ≡ [] → own_pieces ≡ []
  unfolding pieces between ascending
  no_pieces none = ap (λ (rs : List UnitRange). pieces rs) none

  own : AreReadable b own_entries own_main
  own = record {
    clean = names_clean;
    main_is = main_there own_main refl;
    no_entries = λ none. no_entries (no_links none);
    no_main = no_main;
  }

empty_8 : Reads [] [] [] None (gdb_index_bytes [] [] None [] 8)
unfolding gdb_index_bytes pool_of index_names ascending distinct symbol_table slot_count slots_of slots_behind gdb_index areas version_of offsets_from areas_at whole_items is_table_size shortcut_at vector unit_at
empty_8 = record {
  index = record { addresses = []; slots = []; main = None };
  is = refl;
  answers = record { hits = λ name. refl; numbers = λ a. refl };
  main_is = refl;
}

empty_9 : Reads [] [] [] None (gdb_index_bytes [] [] None [] 9)
unfolding gdb_index_bytes pool_of index_names ascending distinct symbol_table slot_count slots_of slots_behind gdb_index areas version_of offsets_from areas_at whole_items is_table_size shortcut_at vector unit_at
empty_9 = record {
  index = record { addresses = []; slots = []; main = None };
  is = refl;
  answers = record { hits = λ name. refl; numbers = λ a. refl };
  main_is = refl;
}

-- the bytes of an index of these entries with this main
abbrev pub bytes_with : Built → List Entry → Option Main → ℕ → List ℕ
bytes_with b entries main version = gdb_index_bytes (units_in b) (pieces b.ranges) main entries version

module _ (b : Built) (made : IsMade b) (entries : List Entry) (main : Option Main) (are : AreReadable b entries main) where
  abbrev IsRead : ℕ → Option Main → Type 0
  IsRead version said = Reads (units_in b) (pieces b.ranges) entries said (bytes_with b entries main version)

  fit : 0 < length (units_in b) → Fit (units_in b) (pieces b.ranges) entries main
  fit some = record {
    some = some;
    wide = λ k d lt. piece_wide b.ranges (all_kept b.program b.links b.ranges made.ranges) (get_or (pieces b.ranges) k d) (Contains-get_or (pieces b.ranges) k d lt);
    clean = are.clean;
    main_is = are.main_is;
  }

  without_units : (version : ℕ) → length (units_in b) ≡ 0 → Reads [] [] [] None (gdb_index_bytes [] [] None [] version) → IsRead version None
  without_units version none empty =
      let walks = no_walks b made b.program.walks none in
      let us : units_in b ≡ [] = nil_from_length (units_in b) none in
      let ps = no_pieces b made (no_ranges b made walks) in
      subst (λ (us : List UnitHeader). Reads us (pieces b.ranges) entries None (gdb_index_bytes us (pieces b.ranges) main entries version)) (sym us)
      (subst (λ (ps : List UnitRange). Reads [] ps entries None (gdb_index_bytes [] ps main entries version)) (sym ps)
      (subst (λ (m : Option Main). Reads [] [] entries None (gdb_index_bytes [] [] m entries version)) (sym (are.no_main walks))
      (subst (λ (es : List Entry). Reads [] [] es None (gdb_index_bytes [] [] None es version)) (sym (are.no_entries walks)) empty)))

  read_8 : length (bytes_with b entries main 8) < 2 ^ 32 → IsRead 8 None
  read_8 small = by (length (units_in b)) refl
    where
      by : (n : ℕ) → length (units_in b) ≡ n → IsRead 8 None
      by zero e = without_units 8 e empty_8
      by (suc n) e = reads_8 (units_in b) (pieces b.ranges) entries main (fit (omega (arith, e))) small

  read_9 : length (bytes_with b entries main 9) < 2 ^ 32 → IsRead 9 main
  read_9 small = by (length (units_in b)) refl
    where
      by : (n : ℕ) → length (units_in b) ≡ n → IsRead 9 main
      by zero e = subst (IsRead 9) (sym (are.no_main (no_walks b made b.program.walks e))) (without_units 9 e empty_9)
      by (suc n) e = reads_9 (units_in b) (pieces b.ranges) entries main (fit (omega (arith, e))) small

  -- read over lists, and so over the file
  alike : (version : ℕ) (said : Option Main) → (said >>=? λ m. cond (leb m.language 65535) (Some m) None) ≡ said → IsRead version said → ReadsAs b entries said (bytes_with b entries main version)
  alike version said fits r = record {
    index = r.index;
    is = r.is;
    hits = r.answers.hits;
    numbers = λ a. r.answers.numbers a ∙ ap (option_map (index_number (units_in b))) ((pieces_are b.ranges).same a);
    main_is = ap (λ (o : Option Main). o >>=? λ m. cond (leb m.language 65535) (Some m) None) r.main_is ∙ fits;
  }

  -- the index of version 8 and that of version 9, where it isn't too large
  pub reads_as_8 : (bytes : List ℕ) → gdb_cache (bytes_with b entries main 8) ≡ GdbBytes bytes → ReadsAs b entries None bytes
  reads_as_8 bytes cache =
      let fits = cache_fits (bytes_with b entries main 8) bytes cache in
      subst (ReadsAs b entries None) fits.1 (alike 8 None refl (read_8 fits.0))

  pub reads_as_9 : (bytes : List ℕ) → gdb_cache (bytes_with b entries main 9) ≡ GdbBytes bytes → ReadsAs b entries main bytes
  reads_as_9 bytes cache =
      let fits = cache_fits (bytes_with b entries main 9) bytes cache in
      subst (ReadsAs b entries main) fits.1 (alike 9 main (main_reads (units_in b) entries main are.main_is) (read_9 fits.0))

pub alike_8 : GdbIndex8ReadsAlike
unfolding cache_in cache_of
alike_8 file b bytes is cache =
    let made = is_made file b is in
    reads_as_8 b made (entries_in b) (main_of b.program b.links) (own b made) bytes cache

pub alike_9 : GdbIndex9ReadsAlike
unfolding cache_in cache_of
alike_9 file b bytes is cache =
    let made = is_made file b is in
    reads_as_9 b made (entries_in b) (main_of b.program b.links) (own b made) bytes cache
