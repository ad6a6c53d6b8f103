-- The entries of a file: their names, tags and places.
use Rattle.std.proofs.Common.{◌≡◌, ℕ, ◌<◌, Bool, true, false, not, ◌&&◌, ◌||◌, cond, eqb, ltb, List, [], ◌∷◌, Option, Some, None, Result, Ok, Err, refl, sym, ap, subst, ◌∙◌, arith, ⊎_elim}
use Rattle.std.specs.Prelude.{Contains, codes, bytes_eq, flat_map, option_map, unwrap_or, option_to_list, is_some}
use Rattle.std.specs.List.{list_all}
use Rattle.std.proofs.lemmas.Bool.{and_parts, ltb-true, eqb-true}
use Rattle.std.proofs.lemmas.List.Elements.{Contains-append_left, Contains-append_right}
use Rattle.std.proofs.lemmas.Option.{cond_some, same_Some}
use Rattle.common_laws.proofs.Members.{contains_here, contains_later, contains_cases, of_map, to_map, of_filter, of_flat_map, of_find}
use Rattle.ix_base.specs.declared.code.TheConstants.{NAME_TOO_LONG}
use Rattle.ix_base.specs.declared.fault.Fault.{Fault}
use Rattle.index_model.specs.declared.entry.Entry.{Entry}
use Rattle.index_model.specs.Meaning.{◌>>=◌, ◌>>◌, holds_or, at_place, each}
use Rattle.index_model.specs.Walk.{Item}
use Rattle.index_model.specs.Program.{Walked, Program, Located, items_of, located}
use Rattle.index_model.specs.Languages.{class_of_unit}
use Rattle.index_model.specs.Chains.{chain_of, chain_end, spelled_name, name_with, linkage_name_of}
use Rattle.index_model.specs.Rules.{Row, table, row_of, is_in_table, is_visited, is_ada}
use Rattle.index_model.specs.Tags.{namespace}
use Rattle.index_model.specs.Names.{Member, scope_path, simple_name}
use Rattle.index_model.specs.Links.{Link, link_of, is_link_indexed, is_within_limit, qualified_of, name_in, followed, links_in, indexed_in}
use Rattle.index_model.specs.Entries.{entry_of, simple_of, may_have_linkage, linkage_entry_of, entries_of_link, entries_of}
use Rattle.index_model.specs.NameIndex.{string_of_entry}
use Rattle.index_model.specs.Faults.{program_of, links_of}
use Rattle.index_model.proofs.Meanings.{bind_ok, holds_ok, same_ok}
use Rattle.index_model.proofs.SimpleNames.{simple_name_ends}
use Rattle.index_alike.proofs.NamesTexts.{HasNoZero}
use Rattle.index_alike.proofs.NamesSpelled.{StandsIn, spelled_clean, linkage_name_clean}
use Rattle.index_alike.proofs.NamesSimple.{tested, simple_clean}

-- each result is that of an item
of_each : {A B : Type 0} (g : A → Result B Fault) (xs : List A) (ys : List B) (y : B) → each g xs ≡ Ok ys → Contains ys y → (x : A) × Contains xs x × (g x ≡ Ok y)
of_each {B = B} g [] ys y is c = absurd (let none : Contains [] y = subst (λ (w : List B). Contains w y) (sym (same_ok [] ys is)) c in omega (arith, none.1))
of_each {B = B} g (x ∷ xs) ys y is c =
    let a = bind_ok (g x) (λ first. each g xs >>= λ others. Ok (first ∷ others)) ys is in
    let b = bind_ok (each g xs) (λ others. Ok (a.0 ∷ others)) ys a.2 in
    let d : Contains (a.0 ∷ b.0) y = subst (λ (w : List B). Contains w y) (sym (same_ok (a.0 ∷ b.0) ys b.2)) c in
    ⊎_elim {A = a.0 ≡ y}
    (λ (same : a.0 ≡ y). (x, contains_here x xs, a.1 ∙ ap {B = Result B Fault} (λ (z : B). Ok z) same))
    (λ (l : Contains b.0 y). let r = of_each g xs b.0 y b.1 l in (r.0, contains_later x xs r.0 r.1, r.2))
    (contains_cases a.0 b.0 y d)

-- ---- links

-- the entry's chain and the name that the file spells for it
pub record IsLink (p : Program) (k : Link) : Type 0 where
  pub home : Walked
  pub walk : Contains p.walks home
  pub entry : Contains (followed p home) k.entry
  pub chain : chain_of p k.entry ≡ Ok k.chain
  pub spelled : spelled_name p k.entry k.chain ≡ Ok k.spelled

module _ (p : Program) where
  abbrev made : Located → List Located → Option (List ℕ) → List Member → Link
  made d chain spelled path = record { entry = d; class = class_of_unit p d.home; chain = chain; spelled = spelled; path = path }

  abbrev judged : Located → List Located → Option (List ℕ) → List Member → Result Link ℕ
  judged d chain spelled path = holds_or (not (is_link_indexed (made d chain spelled path)) || is_within_limit (qualified_of (made d chain spelled path))) NAME_TOO_LONG >> Ok (made d chain spelled path)

  abbrev with_path : Located → List Located → Option (List ℕ) → Result Link ℕ
  with_path d chain spelled = scope_path p (chain_end d chain) >>= judged d chain spelled

  link_is : (w : Walked) (d : Located) (k : Link) → Contains p.walks w → Contains (followed p w) d → link_of p d ≡ Ok k → IsLink p k
  unfolding link_of
  link_is w d k wc dc is =
      let a = bind_ok (chain_of p d) (λ chain. spelled_name p d chain >>= with_path d chain) k is in
      let b = bind_ok (spelled_name p d a.0) (with_path d a.0) k a.2 in
      let c = bind_ok (scope_path p (chain_end d a.0)) (judged d a.0 b.0) k b.2 in
      let h = holds_ok (not (is_link_indexed (made d a.0 b.0 c.0)) || is_within_limit (qualified_of (made d a.0 b.0 c.0))) NAME_TOO_LONG (Ok (made d a.0 b.0 c.0)) k c.2 in
      subst (IsLink p) (same_ok (made d a.0 b.0 c.0) k h.1) (record { home = w; walk = wc; entry = dc; chain = a.1; spelled = b.1 })

  placed : (d : Located) (k : Link) (r : Result Link ℕ) → link_of p d ≡ r → at_place d.item.at r ≡ Ok k → link_of p d ≡ Ok k
  placed d k (Ok x) e is = e ∙ ap {B = Result Link ℕ} (λ (y : Link). Ok y) (same_ok x k is)
  placed d k (Err code) e is = absurd cc

  links_are : (ks : List Link) (k : Link) → links_of p ≡ Ok ks → Contains ks k → IsLink p k
  unfolding links_of links_in
  links_are ks k is c =
      let e = of_each (λ d. at_place d.item.at (link_of p d)) (flat_map (followed p) p.walks) ks k is c in
      let m = of_flat_map (followed p) p.walks e.0 e.1 in
      link_is m.0 e.0 k m.1 m.2 (placed e.0 k (link_of p e.0) refl e.2)

  abbrev is_followed : Walked → Located → Bool
  is_followed w d = is_in_table d.item.tag && is_visited (is_ada (class_of_unit p w)) (items_of w) d.item

  abbrev at_home : Walked → Item → Located
  at_home w d = record { home = w; item = d }

  -- what is followed has a tag of the table and stands in the walk
  pub followed_is : (w : Walked) (d : Located) → Contains (followed p w) d → (is_in_table d.item.tag ≡ true) × (d.home ≡ w) × Contains (items_of w) d.item
  unfolding followed
  followed_is w d c =
      let l = of_filter (is_followed w) (located w) d c in
      let m = of_map (at_home w) (items_of w) d l.0 in
      let test = and_parts (is_in_table d.item.tag) (is_visited (is_ada (class_of_unit p w)) (items_of w) d.item) l.1 in
      (test.0, ap (λ (x : Located). x.home) (sym m.2), subst (λ (x : Located). Contains (items_of w) x.item) m.2 m.1)

  stands_in : (k : Link) → IsLink p k → StandsIn p k.entry
  stands_in k h =
      let i = followed_is h.home k.entry h.entry in
      let own : Contains (located h.home) k.entry = subst (λ (w : Walked). Contains (located h.home) (at_home w k.entry.item)) (sym i.1) (to_map (at_home h.home) (items_of h.home) k.entry.item i.2) in
      to_flat (p.walks) h.home k.entry h.walk own
    where
      to_flat : (ws : List Walked) (w : Walked) (d : Located) → Contains ws w → Contains (located w) d → Contains (flat_map located ws) d
      to_flat [] w d c own = absurd (omega (arith, c.1))
      to_flat (v ∷ ws) w d c own = ⊎_elim (λ (same : v ≡ w). Contains-append_left (located v) (flat_map located ws) d (subst (λ (x : Walked). Contains (located x) d) (sym same) own)) (λ (l : Contains ws w). Contains-append_right (located v) (flat_map located ws) d (to_flat ws w d l own)) (contains_cases v ws w c)

-- ---- tags

table_small : list_all (λ r. ltb r.tag 128) table ≡ true
table_small = refl

all_at : {A : Type 0} (test : A → Bool) (xs : List A) (x : A) → list_all test xs ≡ true → Contains xs x → test x ≡ true
all_at test [] x all c = absurd (omega (arith, c.1))
all_at test (y ∷ ys) x all c = let p = and_parts (test y) (list_all test ys) all in ⊎_elim (λ (same : y ≡ x). subst (λ z. test z ≡ true) same p.0) (λ (l : Contains ys x). all_at test ys x p.1 l) (contains_cases y ys x c)

tag_small : (tag : ℕ) → is_in_table tag ≡ true → tag < 128
tag_small tag is = by (row_of tag) refl is
  where
    by : (o : Option Row) → row_of tag ≡ o → is_some o ≡ true → tag < 128
    by None e is = absurd cc
    by (Some r) e is =
        let f = of_find (λ r. eqb r.tag tag) table r e in
        let low : r.tag < 128 = ltb-true _ _ (all_at (λ r. ltb r.tag 128) table r table_small f.0) in
        let same : r.tag ≡ tag = eqb-true _ _ f.1 in
        omega (arith, low, same)

-- ---- entries

-- what is known of an entry of a file: its name in the index, its tag, and the item that it is made of
pub record IsKnown (p : Program) (e : Entry) : Type 0 where
  pub name : HasNoZero (string_of_entry e)
  pub tag : e.tag < 128
  pub home : Walked
  pub item : Item
  pub walk : Contains p.walks home
  pub own : Contains (items_of home) item
  pub unit : e.unit ≡ home.number
  pub offset : e.offset ≡ item.at

module _ (f : List ℕ) (p : Program) (program : program_of f ≡ Ok p) (k : Link) (h : IsLink p k) where
  name_clean : (text : List ℕ) → name_in k ≡ Some text → HasNoZero text
  name_clean text is = by k.spelled h.spelled is
    where
      fixed : (b : Bool) → cond b (Some (codes "(anonymous namespace)")) None ≡ Some text → HasNoZero text
      fixed true e = subst HasNoZero (same_Some (codes "(anonymous namespace)") text e) (tested (codes "(anonymous namespace)") refl)
      fixed false e = absurd cc

      by : (o : Option (List ℕ)) → spelled_name p k.entry k.chain ≡ Ok o → name_with k.entry o ≡ Some text → HasNoZero text
      by None e is = fixed (eqb k.entry.item.tag namespace) is
      by (Some t) e is = subst HasNoZero (same_Some t text is) (spelled_clean f p program k.entry k.chain t (stands_in p k h) h.chain e)

  simple_is_clean : HasNoZero (simple_of (entry_of k))
  simple_is_clean = subst HasNoZero (sym (simple_name_ends k)) (by (name_in k) refl)
    where
      by : (o : Option (List ℕ)) → name_in k ≡ o → HasNoZero (unwrap_or (option_map (simple_name k.class) o) [])
      by None e = λ j d lt. absurd (omega arith)
      by (Some t) e = simple_clean k.class t (name_clean t e)

  own_known : IsKnown p (entry_of k)
  unfolding entry_of
  own_known =
      let i = followed_is p h.home k.entry h.entry in
      record {
        name = simple_is_clean;
        tag = tag_small k.entry.item.tag i.0;
        home = h.home;
        item = k.entry.item;
        walk = h.walk;
        own = i.2;
        unit = ap (λ (w : Walked). w.number) i.1;
        offset = refl;
      }

  abbrev linkage_made : List ℕ → Entry
  linkage_made name = record (entry_of k) { linkage = true; name = name; tail = 0 }

  linkage_known : (o : Option (List ℕ)) (e : Entry) → linkage_name_of p k.chain ≡ o → linkage_entry_of (entry_of k) o ≡ Some e → IsKnown p e
  unfolding linkage_entry_of
  linkage_known None e name is = absurd cc
  linkage_known (Some text) e name is =
      let i = cond_some (may_have_linkage (entry_of k).tag && not (bytes_eq text (entry_of k).name)) (linkage_made text) e is in
      let own = own_known in
      subst (IsKnown p) i.1 (record {
        name = linkage_name_clean f p program k.entry k.chain text (stands_in p k h) h.chain name;
        tag = own.tag;
        home = own.home;
        item = own.item;
        walk = own.walk;
        own = own.own;
        unit = own.unit;
        offset = own.offset;
      })

  link_known : (e : Entry) → Contains (entries_of_link p k) e → IsKnown p e
  unfolding entries_of_link
  link_known e c = ⊎_elim
      (λ (same : entry_of k ≡ e). subst (IsKnown p) same own_known)
      (λ (l : Contains (option_to_list (linkage_entry_of (entry_of k) (linkage_name_of p k.chain))) e). by (linkage_entry_of (entry_of k) (linkage_name_of p k.chain)) refl l)
      (contains_cases (entry_of k) (option_to_list (linkage_entry_of (entry_of k) (linkage_name_of p k.chain))) e c)
    where
      by : (o : Option Entry) → linkage_entry_of (entry_of k) (linkage_name_of p k.chain) ≡ o → Contains (option_to_list o) e → IsKnown p e
      by None is l = absurd (omega (arith, l.1))
      by (Some n) is l = ⊎_elim
          (λ (same : n ≡ e). linkage_known (linkage_name_of p k.chain) e refl (is ∙ ap (λ (x : Entry). Some x) same))
          (λ (m : Contains [] e). absurd (omega (arith, m.1)))
          (contains_cases n [] e l)

-- each entry of a file
pub entries_known : (f : List ℕ) (p : Program) (ks : List Link) (e : Entry) → program_of f ≡ Ok p → links_of p ≡ Ok ks → Contains (entries_of p ks) e → IsKnown p e
unfolding entries_of
entries_known f p ks e program links c =
    let m = of_flat_map (entries_of_link p) (indexed_in ks) e c in
    let k = of_filter is_link_indexed ks m.0 m.1 in
    link_known f p program m.0 (links_are p ks m.0 links k.0) e m.2
