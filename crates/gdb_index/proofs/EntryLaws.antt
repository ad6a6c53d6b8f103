-- What gdb lists has units of the file, and main is among it where it stands in the index.
use Rattle.std.proofs.Common.{◌≡◌, ℕ, ◌<◌, Bool, true, false, cond, not, ◌&&◌, List, [], ◌∷◌, length, get_or, filter, find, map, Option, Some, None, refl, sym, ap, subst, ◌∙◌, arith}
use mathlib.Core.Bool.{◌||◌}
use Rattle.std.specs.Prelude.{All, Contains, bytes_eq}
use Rattle.std.specs.List.{list_any}
use Rattle.std.proofs.lemmas.List.Elements.{Contains-get_or}
use Rattle.std.proofs.lemmas.Option.{same_Some}
use Rattle.common_laws.proofs.Members.{of_find, of_flat_map, of_map}
use Rattle.index_model.specs.declared.answer.Main.{Main}
use Rattle.index_model.specs.declared.entry.Entry.{Entry}
use Rattle.index_model.specs.Answers.{is_named}
use Rattle.index_model.specs.Program.{Walked, Program, Located, located}
use Rattle.index_model.proofs.ShardRoots.{Numbered, numbered_high}
use Rattle.gdb_entries.specs.declared.language.LanguageClass.{LanguageClass}
use Rattle.gdb_entries.specs.Entries.{as_listed, entries_of, entries_of_item, entries_with, entry_as, is_item_static, listed, names_of}
use Rattle.gdb_entries.specs.Kinds.{kinds_in, kinds_of}
use Rattle.gdb_entries.specs.Owners.{imports_through, is_partial, own_class, owner_of}
use Rattle.gdb_entries.specs.Reached.{is_seen}
use Rattle.gdbindex_write.specs.Writable.{IsMainOf, is_plainly_named}
use Rattle.gdb_index.specs.Indexes.{main_listed}

-- ---- units

module _ (p : Program) where
  abbrev imports_it : Walked → Walked → Bool
  imports_it w o = not (is_partial o) && imports_through (length p.walks) p o w

  owner_there : (w o : Walked) → Contains p.walks w → owner_of p w ≡ Some o → Contains p.walks o
  unfolding owner_of
  owner_there w o there is = elim (is_partial w) as (λ b. cond b (find (imports_it w) p.walks) (Some w) ≡ Some o → Contains p.walks o) [
    | true ↦ λ found. (of_find (imports_it w) p.walks o found).0
    | false ↦ λ same. subst (Contains p.walks) (same_Some w o same) there
  ] is

  item_unit : (o : Walked) (class : LanguageClass) (d : Located) (e : Entry) → Contains (entries_of_item p o class d) e → e.unit ≡ o.number
  unfolding entries_of_item
  item_unit o class d e c =
      let static = is_item_static p class d in
      let n = of_flat_map (λ (n : Bool × List ℕ). map (entry_as o d static n.0 n.1) (kinds_in (kinds_of d.item.tag))) (names_of p class d) e c in
      let k = of_map (entry_as o d static n.0.0 n.0.1) (kinds_in (kinds_of d.item.tag)) e n.2 in
      ap (λ (x : Entry). x.unit) (sym k.2)

  -- an entry has the number of a unit of the file
  unit_entry : (w : Walked) → Contains p.walks w → (e : Entry) → (o : Option Walked) → owner_of p w ≡ o → Contains (entries_with p o w) e → (u : Walked) × Contains p.walks u × (e.unit ≡ u.number)
  unit_entry w there e None is c = absurd (omega (arith, c.1))
  unit_entry w there e (Some o) is c =
      let class = own_class p o in
      let d = of_flat_map (entries_of_item p o class) (filter (is_seen p class) (located w)) e c in
      (o, owner_there w o there is, item_unit o class d.0 e d.2)

  pub have_units : (count : ℕ) → count ≡ length p.walks → Numbered 0 p.walks → All (λ e. e.unit < count) (listed p)
  unfolding entries_of
  have_units count size numbered = λ i d lt.
      let e = get_or (listed p) i d in
      let m = of_map as_listed (entries_of p) e (Contains-get_or (listed p) i d lt) in
      let w = of_flat_map (λ (w : Walked). entries_with p (owner_of p w) w) p.walks m.0 m.1 in
      let u = unit_entry w.0 w.1 m.0 (owner_of p w.0) refl w.2 in
      omega (arith, ap (λ (x : Entry). x.unit) m.2, u.2, numbered_high 0 p.walks u.0 numbered u.1, size)

-- ---- main

plainly : (name : List ℕ) (es : List Entry) → list_any (is_plainly_named name) (map as_listed es) ≡ list_any (is_named name) (map as_listed es)
plainly name [] = refl
plainly name (e ∷ es) = ap (λ (b : Bool). bytes_eq (as_listed e).name name || b) (plainly name es)

pub main_among : (es : List Entry) (m : Option Main) → IsMainOf (map as_listed es) (main_listed (map as_listed es) m)
main_among es None = tt
main_among es (Some m) = by (list_any (is_named m.name) (map as_listed es)) refl
  where
    by : (b : Bool) → list_any (is_named m.name) (map as_listed es) ≡ b → IsMainOf (map as_listed es) (cond b (Some m) None)
    by true is = plainly m.name es ∙ is
    by false is = tt
