-- What gdb lists of an accepted file can be read from its index.
use Rattle.std.proofs.Common.{◌≡◌, ℕ, Bool, true, false, not, cond, List, [], ◌∷◌, map, flat_map, Option, Some, None, refl, sym, ap, ◌∙◌, subst}
use mathlib.Core.Bool.{◌||◌}
use Rattle.std.specs.Prelude.{Contains, filter}
use Rattle.std.specs.List.{list_any}
use Rattle.std.proofs.lemmas.Slice.Eq.{bytes_eq-Decides}
use Rattle.common_laws.proofs.Members.{contains_here, contains_later, of_filter, of_map}
use Rattle.index_model.specs.declared.answer.Main.{Main}
use Rattle.index_model.specs.declared.entry.Entry.{Entry}
use Rattle.index_model.specs.Answers.{is_named}
use Rattle.index_model.specs.Faults.{Built}
use Rattle.index_model.specs.GdbIndex.{index_names, pool_of}
use Rattle.index_model.specs.MainProgram.{main_of}
use Rattle.index_model.specs.Ordered.{bytes_lt}
use Rattle.index_model.specs.Program.{Walked}
use Rattle.index_model.proofs.Orders.{ascending_only, bytes_order}
use Rattle.index_alike.specs.GdbAlike.{units_in}
use Rattle.index_alike.proofs.GdbBuilt.{AreReadable, IsMade, is_made, language_fits, no_main, reads_as_8, reads_as_9}
use Rattle.index_alike.proofs.GdbLists.{is_named as stands_in_index}
use Rattle.index_alike.proofs.GdbPool.{names_of_pool}
use Rattle.index_alike.proofs.GdbPositions.{HasNoZero}
use Rattle.index_alike.proofs.GdbTexts.{prefix_clean}
use Rattle.index_alike.proofs.GdbWhole.{AreMain}
use Rattle.gdb_entries.specs.Entries.{as_listed, entries_of, entries_with, listed}
use Rattle.gdb_entries.specs.Owners.{owner_of}
use Rattle.gdb_index.specs.Indexes.{gdb_bytes, main_listed}
use Rattle.listed_alike.specs.ListedAlike.{ListedIndex8ReadsAlike, ListedIndex9ReadsAlike}

-- ---- entries as an index lists them

-- their names have no zero
names_clean : (es : List Entry) (name : List ℕ) → Contains (index_names (map as_listed es)) name → HasNoZero name
unfolding index_names
names_clean es name c =
    let plain : Entry → Bool = λ e. not e.linkage in
    let name_of : Entry → List ℕ = λ e. e.name in
    let m = of_map name_of (filter plain (map as_listed es)) name (ascending_only bytes_lt bytes_order (map name_of (filter plain (map as_listed es))) name c) in
    let l = of_map as_listed es m.0 (of_filter plain (map as_listed es) m.0 m.1).0 in
    subst HasNoZero (ap name_of l.2 ∙ m.2) (prefix_clean l.0.name)

-- one of them has the name
record HasName (es : List Entry) (name : List ℕ) : Type 0 where
  entry : Entry
  there : Contains (map as_listed es) entry
  plain : entry.linkage ≡ false
  named : entry.name ≡ name

some_named : (es : List Entry) (name : List ℕ) → list_any (is_named name) (map as_listed es) ≡ true → HasName es name
some_named [] name some = absurd cc
some_named (e ∷ es) name some = by (is_named name (as_listed e)) refl (some_named es name) some
  where
    by : (b : Bool) → is_named name (as_listed e) ≡ b → (list_any (is_named name) (map as_listed es) ≡ true → HasName es name) → (b || list_any (is_named name) (map as_listed es)) ≡ true → HasName (e ∷ es) name
    by true is rest more = record {
      entry = as_listed e;
      there = contains_here (as_listed e) (map as_listed es);
      plain = refl;
      named = (bytes_eq-Decides (as_listed e).name name).0 is;
    }
    by false is rest more =
        let r = rest more in
        record { entry = r.entry; there = contains_later (as_listed e) (map as_listed es) r.entry r.there; plain = r.plain; named = r.named }

-- ---- of an accepted file

module _ (b : Built) (made : IsMade b) where
  abbrev own : List Entry
  own = listed b.program

  abbrev own_main : Option Main
  own_main = main_of b.program b.links

  main_fits : (o : Option Main) → own_main ≡ o → AreMain (pool_of (units_in b) own) (main_listed own o)
  main_fits None e = tt
  main_fits (Some m) e = by (list_any (is_named m.name) own) refl
    where
      by : (c : Bool) → list_any (is_named m.name) own ≡ c → AreMain (pool_of (units_in b) own) (cond c (Some m) None)
      by true is =
          let r = some_named (entries_of b.program) m.name is in
          let named : Contains (index_names own) m.name = subst (Contains (index_names own)) r.named (stands_in_index own r.entry r.there r.plain) in
          let fits = language_fits b made m e in
          record { some = fits.0; low = fits.1; named = subst (λ (ns : List (List ℕ)). Contains ns m.name) (sym (names_of_pool (units_in b) own)) named }
      by false is = tt

  none_listed : b.program.walks ≡ [] → own ≡ []
  unfolding entries_of
  none_listed none = ap (λ (ws : List Walked). map as_listed (flat_map (λ w. entries_with b.program (owner_of b.program w) w) ws)) none

  readable : AreReadable b own (main_listed own own_main)
  readable = record {
    clean = names_clean (entries_of b.program);
    main_is = main_fits own_main refl;
    no_entries = none_listed;
    no_main = λ none. ap (main_listed own) (no_main b made none);
  }

pub alike_8 : ListedIndex8ReadsAlike
unfolding gdb_bytes
alike_8 file b bytes is cache =
    let made = is_made file b is in
    reads_as_8 b made (listed b.program) (main_listed (listed b.program) (main_of b.program b.links)) (readable b made) bytes cache

pub alike_9 : ListedIndex9ReadsAlike
unfolding gdb_bytes
alike_9 file b bytes is cache =
    let made = is_made file b is in
    reads_as_9 b made (listed b.program) (main_listed (listed b.program) (main_of b.program b.links)) (readable b made) bytes cache
