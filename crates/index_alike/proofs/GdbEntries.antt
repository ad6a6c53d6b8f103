-- What the entries of an accepted file have for an index: names without a zero, and main among them.
use Rattle.std.proofs.Common.{◌≡◌, ℕ, zero, suc, ◌+◌, ◌<◌, ◌≤◌, ◌^◌, Bool, true, false, not, ◌&&◌, ◌||◌, cond, List, [], ◌∷◌, find, Option, Some, None, unwrap_or, Result, Ok, Err, refl, sym, ap, ◌∙◌, subst, arith, ⊎_elim}
use mathlib.Core.Bool.{true≢false}
use Rattle.std.specs.Prelude.{Contains, filter, flat_map, option_map, option_and_then, option_to_list, nat_le, ⊤, ◌==◌}
use Rattle.std.specs.Option.{option_or}
use Rattle.std.proofs.lemmas.Bool.{leb-true}
use Rattle.std.proofs.lemmas.Option.{same_Some}
use Rattle.common_laws.proofs.Members.{contains_here, contains_later, contains_cases, of_filter, of_flat_map, to_flat_map}
use Rattle.ix_base.specs.declared.code.TheConstants.{NAME_TOO_LONG}
use Rattle.ix_base.specs.declared.limits.TheConstants.{MAX_PATH_STEPS}
use Rattle.index_model.specs.declared.answer.Main.{Main}
use Rattle.index_model.specs.declared.entry.Entry.{Entry}
use Rattle.index_model.specs.declared.unit.Unit.{Unit as UnitHeader}
use Rattle.index_model.specs.Meaning.{◌>>=◌, ◌>>◌, holds_or, at_place, each}
use Rattle.index_model.specs.Sections.{Section}
use Rattle.index_model.specs.Attributes.{read_as, as_unsigned, language_value, says_main}
use Rattle.index_model.specs.Walk.{Item}
use Rattle.index_model.specs.Program.{Walked, Program, Located, walked, items_of, located, root_of}
use Rattle.index_model.specs.Languages.{class_of_unit, language_of, own_language, language_by_import, importing_language}
use Rattle.index_model.specs.Chains.{chain_of, chain_end, spelled_name, linkage_name_of}
use Rattle.index_model.specs.Rules.{is_in_table, is_visited, is_ada}
use Rattle.index_model.specs.Names.{Member, scope_path, qualified_name}
use Rattle.index_model.specs.Links.{Link, name_in, link_of, is_link_indexed, is_within_limit, qualified_of, followed, links_in, indexed_in}
use Rattle.index_model.specs.Entries.{entry_of, linkage_entry_of, entries_of_link, entries_of}
use Rattle.index_model.specs.MainProgram.{full_name, is_named_main, main_in, main_of}
use Rattle.index_model.proofs.Meanings.{bind_ok, holds_ok, same_ok}
use Rattle.index_model.proofs.Scans.{AreScans, scanned_walked}
use Rattle.index_alike.proofs.GdbPositions.{HasNoZero}
use Rattle.index_alike.proofs.GdbTexts.{IsClean, AreMembers, qualified_clean}
use Rattle.index_alike.proofs.GdbItems.{AreCleanValues, walk_cleans}
use Rattle.index_alike.proofs.GdbChains.{IsOf, of_walk, find_member, chain_is_of, end_is_of, spelled_clean, with_clean, path_clean}

-- what a reading of each gives is what it gives of one
pub of_each : {A B E : Type 0} (g : A → Result B E) (xs : List A) (ys : List B) → each g xs ≡ Ok ys → (y : B) → Contains ys y → (x : A) × Contains xs x × (g x ≡ Ok y)
of_each g [] ys is y c = absurd (omega (arith, (subst (λ w. Contains w y) (sym (same_ok [] ys is)) c).1))
of_each g (x ∷ xs) ys is y c =
    let a = bind_ok (g x) (λ z. each g xs >>= λ zs. Ok (z ∷ zs)) ys is in
    let b = bind_ok (each g xs) (λ zs. Ok (a.0 ∷ zs)) ys a.2 in
    let d = subst (λ w. Contains w y) (sym (same_ok (a.0 ∷ b.0) ys b.2)) c in
    ⊎_elim
    (λ (e : a.0 ≡ y). (x, contains_here x xs, a.1 ∙ ap (λ z. Ok z) e))
    (λ (l : Contains b.0 y). let r = of_each g xs b.0 b.1 y l in (r.0, contains_later x xs r.0 r.1, r.2))
    (contains_cases a.0 b.0 y d)

-- ---- walks

walks_clean : (ss : List Section) (n : ℕ) (us : List UnitHeader) (ws : List Walked) → AreScans ss n us ws → (w : Walked) → Contains ws w → (d : Item) → Contains (items_of w) d → AreCleanValues d.values
walks_clean ss n [] [] h w c d m = absurd (omega (arith, c.1))
walks_clean ss n [] (v ∷ ws) h w c d m = absurd h
walks_clean ss n (u ∷ us) [] h w c d m = absurd h
walks_clean ss n (u ∷ us) (v ∷ ws) h w c d m = ⊎_elim
    (λ (e : v ≡ w). walk_cleans ss (n, u) w (subst (λ (x : Walked). walked_ok x) e (scanned_walked ss (n, u) v h.0).0) d m)
    (λ (l : Contains ws w). walks_clean ss (n + 1) us ws h.1 w l d m)
    (contains_cases v ws w c)
  where
    walked_ok : Walked → Type 0
    walked_ok x = walked ss (n, u) ≡ Ok x

module _ (p : Program) (us : List UnitHeader) (scans : AreScans p.sections 0 us p.walks) where
  clean : (d : Located) → IsOf p d → AreCleanValues d.item.values
  clean d is = walks_clean p.sections 0 us p.walks scans d.home is.home d.item is.item

  -- ---- links

  -- the names of a link have no zero
  record IsCleanLink (k : Link) : Type 0 where
    name : IsClean (name_in k)
    members : AreMembers k.path

  module _ (d : Located) (own : IsOf p d) where
    abbrev made : List Located → Option (List ℕ) → List Member → Link
    made chain spelled path = record { entry = d; class = class_of_unit p d.home; chain = chain; spelled = spelled; path = path }

    abbrev tested : List Located → Option (List ℕ) → List Member → Result Link ℕ
    tested chain spelled path = holds_or (not (is_link_indexed (made chain spelled path)) || is_within_limit (qualified_of (made chain spelled path))) NAME_TOO_LONG >> Ok (made chain spelled path)

    abbrev with_path : List Located → Option (List ℕ) → Result Link ℕ
    with_path chain spelled = scope_path p (chain_end d chain) >>= tested chain spelled

    link_clean : (k : Link) → link_of p d ≡ Ok k → IsCleanLink k
    unfolding link_of
    link_clean k is =
        let a = bind_ok (chain_of p d) (λ chain. spelled_name p d chain >>= with_path chain) k is in
        let chain = chain_is_of p d a.0 own a.1 in
        let b = bind_ok (spelled_name p d a.0) (with_path a.0) k a.2 in
        let c = bind_ok (scope_path p (chain_end d a.0)) (tested a.0 b.0) k b.2 in
        let h = holds_ok (not (is_link_indexed (made a.0 b.0 c.0)) || is_within_limit (qualified_of (made a.0 b.0 c.0))) NAME_TOO_LONG (Ok (made a.0 b.0 c.0)) k c.2 in
        subst IsCleanLink (same_ok (made a.0 b.0 c.0) k h.1) (record {
          name = with_clean p clean d b.0 (spelled_clean p clean d a.0 b.0 chain b.1);
          members = path_clean p clean MAX_PATH_STEPS (chain_end d a.0) c.0 (end_is_of p d a.0 own chain) c.1;
        })

  placed_link : (d : Located) (k : Link) → IsOf p d → (r : Result Link ℕ) → link_of p d ≡ r → at_place d.item.at r ≡ Ok k → IsCleanLink k
  placed_link d k own (Ok x) e is = link_clean d own k (e ∙ ap (λ (y : Link). Ok y) (same_ok x k is))
  placed_link d k own (Err code) e is = absurd cc

  followed_is_of : (d : Located) → Contains (flat_map (followed p) p.walks) d → IsOf p d
  unfolding followed
  followed_is_of d c =
      let m = of_flat_map (followed p) p.walks d c in
      of_walk p m.0 d m.1 (of_filter (λ (d : Located). is_in_table d.item.tag && is_visited (is_ada (class_of_unit p m.0)) (items_of m.0) d.item) (located m.0) d m.2).0

  links_clean : (ks : List Link) → links_in p p.walks ≡ Ok ks → (k : Link) → Contains ks k → IsCleanLink k
  unfolding links_in
  links_clean ks is k c =
      let r = of_each (λ d. at_place d.item.at (link_of p d)) (flat_map (followed p) p.walks) ks is k c in
      placed_link r.0 k (followed_is_of r.0 r.1) (link_of p r.0) refl r.2

  name_clean : (k : Link) → IsCleanLink k → HasNoZero (unwrap_or (qualified_of k) [])
  name_clean k h = by (name_in k) h.name
    where
      by : (o : Option (List ℕ)) → IsClean o → HasNoZero (unwrap_or (option_map (qualified_name k.class k.path) o) [])
      by None c = refl
      by (Some name) c = qualified_clean k.class k.path name h.members c

  -- ---- entries

  linkage_true : (e : Entry) (name : Option (List ℕ)) (n : Entry) → linkage_entry_of e name ≡ Some n → n.linkage ≡ true
  unfolding linkage_entry_of
  linkage_true e None n is = absurd cc
  linkage_true e (Some name) n is = by _ is
    where
      by : (b : Bool) → cond b (Some (record e { linkage = true; name = name; tail = 0 })) None ≡ Some n → n.linkage ≡ true
      by true is = ap (λ (x : Entry). x.linkage) (sym (same_Some (record e { linkage = true; name = name; tail = 0 }) n is))
      by false is = absurd cc

  -- the entry of an indexed link, unless it is a linkage entry
  plain_entry : (k : Link) (e : Entry) → e.linkage ≡ false → Contains (entries_of_link p k) e → entry_of k ≡ e
  unfolding entries_of_link
  plain_entry k e plain c = ⊎_elim (λ (same : entry_of k ≡ e). same) (λ (l : Contains (option_to_list (linkage_entry_of (entry_of k) (linkage_name_of p k.chain))) e). absurd (none (linkage_entry_of (entry_of k) (linkage_name_of p k.chain)) refl l)) (contains_cases (entry_of k) (option_to_list (linkage_entry_of (entry_of k) (linkage_name_of p k.chain))) e c)
    where
      none : (o : Option Entry) → linkage_entry_of (entry_of k) (linkage_name_of p k.chain) ≡ o → Contains (option_to_list o) e → ⊥
      none None is l = absurd (omega (arith, l.1))
      none (Some n) is l = ⊎_elim
          (λ (same : n ≡ e). true≢false (sym (linkage_true (entry_of k) (linkage_name_of p k.chain) n is) ∙ ap (λ (x : Entry). x.linkage) same ∙ plain))
          (λ (m : Contains [] e). absurd (omega (arith, m.1)))
          (contains_cases n [] e l)

  own_name : (k : Link) → (entry_of k).name ≡ full_name k
  unfolding entry_of
  own_name k = refl

  own_plain : (k : Link) → (entry_of k).linkage ≡ false
  unfolding entry_of
  own_plain k = refl

  pub entry_clean : (ks : List Link) → links_in p p.walks ≡ Ok ks → (e : Entry) → Contains (entries_of p ks) e → e.linkage ≡ false → HasNoZero e.name
  unfolding entries_of
  entry_clean ks is e c plain =
      let m = of_flat_map (entries_of_link p) (indexed_in ks) e c in
      let k = (of_filter is_link_indexed ks m.0 m.1).0 in
      let same = plain_entry m.0 e plain m.2 in
      subst HasNoZero (sym (own_name m.0) ∙ ap (λ (x : Entry). x.name) same) (name_clean m.0 (links_clean ks is m.0 k))

  entry_there : (ks : List Link) (k : Link) → Contains (indexed_in ks) k → Contains (entries_of p ks) (entry_of k)
  unfolding entries_of entries_of_link
  entry_there ks k c = to_flat_map (entries_of_link p) (indexed_in ks) k (entry_of k) c (contains_here (entry_of k) (option_to_list (linkage_entry_of (entry_of k) (linkage_name_of p k.chain))))

-- ---- languages

low_language : (o : Option ℕ) → Type 0
low_language None = ⊤
low_language (Some n) = n < 2 ^ 16

own_low : (w : Walked) → low_language (own_language w)
unfolding own_language low_language
own_low w = by (root_of w)
  where
    capped : (b : Bool) (n : ℕ) → (b ≡ true → n ≤ 0xFFFF) → cond b n 0 < 2 ^ 16
    capped true n low = omega (arith, low refl)
    capped false n low = omega arith

    value : (o : Option ℕ) → low_language (option_map (λ n. cond (nat_le n 0xFFFF) n 0) o)
    value None = tt
    value (Some n) = capped (nat_le n 0xFFFF) n (λ e. leb-true n 0xFFFF e)

    by : (root : Option Item) → low_language (option_and_then language_value root)
    by None = tt
    by (Some d) = value (read_as as_unsigned 0x13 d)

importing_low : (p : Program) (o : ℕ) → low_language (importing_language p o)
unfolding importing_language low_language
importing_low p o = by (find _ p.walks)
  where
    by : (w : Option Walked) → low_language (option_and_then own_language w)
    by None = tt
    by (Some w) = own_low w

by_import_low : (p : Program) (root : Option Item) → low_language (language_by_import p root)
unfolding language_by_import low_language
by_import_low p None = tt
by_import_low p (Some root) = by _ (importing_language p root.at) (importing_low p root.at)
  where
    by : (b : Bool) (o : Option ℕ) → low_language o → low_language (cond b o None)
    by true o h = h
    by false o h = tt

pub language_low : (p : Program) (w : Walked) → language_of p w < 2 ^ 16
unfolding language_of low_language
language_low p w = by (own_language w) (language_by_import p (root_of w)) (own_low w) (by_import_low p (root_of w))
  where
    by : (a b : Option ℕ) → low_language a → low_language b → unwrap_or (option_or a b) 0 < 2 ^ 16
    by (Some n) b h g = h
    by None (Some n) h g = g
    by None None h g = omega arith

-- ---- main

main_member : (ks : List Link) (k : Link) → main_in ks ≡ Some k → Contains ks k
unfolding main_in
main_member ks k is = by (find (λ k. says_main k.entry.item) ks) refl is
  where
    by : (o : Option Link) → find (λ k. says_main k.entry.item) ks ≡ o → option_or o (find is_named_main ks) ≡ Some k → Contains ks k
    by (Some l) e is = find_member (λ k. says_main k.entry.item) ks k (e ∙ is)
    by None e is = find_member is_named_main ks k is

-- main as an index says it
pub record IsMainOf (es : List Entry) (m : Main) : Type 0 where
  pub some : 0 < m.language
  pub low : m.language < 2 ^ 16
  pub entry : Entry
  pub there : Contains es entry
  pub plain : entry.linkage ≡ false
  pub named : entry.name ≡ m.name

pub main_is_of : (p : Program) (us : List UnitHeader) → AreScans p.sections 0 us p.walks → (ks : List Link) (m : Main) → main_of p ks ≡ Some m → IsMainOf (entries_of p ks) m
unfolding main_of
main_is_of p us scans ks m is = by (main_in (filter has_language (indexed_in ks))) refl is
  where
    has_language : Link → Bool
    has_language k = not (language_of p k.entry.home == 0)

    main : Link → Main
    main k = record { language = language_of p k.entry.home; name = full_name k }

    not_zero : (n : ℕ) → not (n == 0) ≡ true → 0 < n
    not_zero zero e = absurd (true≢false (sym e))
    not_zero (suc n) e = omega arith

    by : (o : Option Link) → main_in (filter has_language (indexed_in ks)) ≡ o → option_map main o ≡ Some m → IsMainOf (entries_of p ks) m
    by None e is = absurd cc
    by (Some k) e is =
        let c = of_filter has_language (indexed_in ks) k (main_member (filter has_language (indexed_in ks)) k e) in
        subst (IsMainOf (entries_of p ks)) (same_Some (main k) m is) (record {
          some = not_zero (language_of p k.entry.home) c.1;
          low = language_low p k.entry.home;
          entry = entry_of k;
          there = entry_there p us scans ks k c.0;
          plain = own_plain p us scans k;
          named = own_name p us scans k;
        })
