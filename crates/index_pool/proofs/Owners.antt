-- The entries that the references of a run give are those of its units.
use Rattle.std.proofs.Common.{◌≡◌, ℕ, true, List, [], ◌∷◌, flat_map, map, ◌&&◌, not, Option, Some, None, Result, Ok, refl, sym, ap, subst, ◌∙◌, arith, ⊎_elim}
use Rattle.std.proofs.lemmas.Option.{cond_some}
use Rattle.std.proofs.lemmas.Bool.{and_parts}
use Rattle.std.specs.Prelude.{Contains, option_to_list, bytes_eq}
use Rattle.std.specs.List.{AllZip}
use Rattle.common_laws.proofs.Members.{contains_here, contains_later, contains_cases, of_map, of_filter, of_flat_map}
use Rattle.ix_base.specs.declared.fault.Fault.{Fault}
use Rattle.index_model.specs.declared.entry.Entry.{Entry}
use Rattle.index_model.specs.Chains.{linkage_name_of}
use Rattle.index_model.specs.Entries.{entry_of, may_have_linkage, linkage_entry_of, entries_of_link, entries_of}
use Rattle.index_model.specs.Faults.{scanned}
use Rattle.index_model.specs.Languages.{class_of_unit}
use Rattle.index_model.specs.Links.{Link, link_of, links_in, followed, is_link_indexed, indexed_in}
use Rattle.index_model.specs.Meaning.{◌>>=◌, each, at_place}
use Rattle.index_model.specs.Program.{Walked, Program, Located, located, items_of}
use Rattle.index_model.specs.Rules.{is_in_table, is_visited, is_ada}
use Rattle.index_model.specs.Sections.{Section}
use Rattle.index_model.specs.Walk.{Item}
use Rattle.index_model.proofs.Meanings.{bind_ok, same_ok, at_place_ok}
use Rattle.index_model.proofs.Scans.{scanned_walked}
use Rattle.index_model.proofs.UnitsApart.{walk_parts}
use Rattle.qualified_names.proofs.LinkLaws.{link_parts}
use Rattle.index_pool.proofs.Walks.{Unit_}
use Rattle.index_pool.proofs.Picks.{Own}

-- what is given of a list is given of one of its members
pub each_member : {A B : Type 0} (f : A → Result B Fault) (xs : List A) (ys : List B) → each f xs ≡ Ok ys → (y : B) → Contains ys y → (x : A) × Contains xs x × (f x ≡ Ok y)
each_member f [] ys is y c = let d = subst (λ zs. Contains zs y) (sym (same_ok [] ys is)) c in absurd (omega (arith, d.1))
each_member {B = B} f (x ∷ xs) ys is y c =
    let first = bind_ok (f x) (λ z. each f xs >>= λ zs. Ok (z ∷ zs)) ys is in
    let rest = bind_ok (each f xs) (λ zs. Ok (first.0 ∷ zs)) ys first.2 in
    let d : Contains (first.0 ∷ rest.0) y = subst (λ (zs : List B). Contains zs y) (sym (same_ok (first.0 ∷ rest.0) ys rest.2)) c in
    ⊎_elim
    (λ (same : first.0 ≡ y). (x, contains_here x xs, first.1 ∙ ap (λ (z : B). Ok z) same))
    (λ (later : Contains rest.0 y). let r = each_member f xs rest.0 rest.1 y later in (r.0, contains_later x xs r.0 r.1, r.2))
    (contains_cases first.0 rest.0 y d)

module _ (p : Program) where
  -- a link is that of an entry of the units whose references are followed
  pub record IsFollowed (ws : List Walked) (k : Link) : Type 0 where
    pub home : Contains ws k.entry.home
    pub item : Contains (items_of k.entry.home) k.entry.item
    pub visited : is_visited (is_ada (class_of_unit p k.entry.home)) (items_of k.entry.home) k.entry.item ≡ true

  followed_in : (ws : List Walked) (d : Located) → Contains (flat_map (followed p) ws) d → (Contains ws d.home) × (Contains (items_of d.home) d.item) × (is_visited (is_ada (class_of_unit p d.home)) (items_of d.home) d.item ≡ true)
  unfolding followed
  followed_in ws d c =
      let w = of_flat_map (followed p) ws d c in
      let ada = is_ada (class_of_unit p w.0) in
      let l = of_filter (λ (x : Located). is_in_table x.item.tag && is_visited ada (items_of w.0) x.item) (located w.0) d w.2 in
      let m = of_map (λ (i : Item). let x : Located = record { home = w.0; item = i } in x) (items_of w.0) d l.0 in
      let home : w.0 ≡ d.home = ap (λ (x : Located). x.home) m.2 in
      let item : m.0 ≡ d.item = ap (λ (x : Located). x.item) m.2 in
      (subst (Contains ws) home w.1, subst (λ (v : Walked). Contains (items_of v) d.item) home (subst (Contains (items_of w.0)) item m.1), subst (λ (v : Walked). is_visited (is_ada (class_of_unit p v)) (items_of v) d.item ≡ true) home (and_parts (is_in_table d.item.tag) (is_visited ada (items_of w.0) d.item) l.1).1)

  pub link_is_followed : (ws : List Walked) (ks : List Link) → links_in p ws ≡ Ok ks → (k : Link) → Contains ks k → IsFollowed ws k
  unfolding links_in
  link_is_followed ws ks is k c =
      let m = each_member (λ d. at_place d.item.at (link_of p d)) (flat_map (followed p) ws) ks is k c in
      let entry : k.entry ≡ m.0 = (link_parts p m.0 k (at_place_ok m.0.item.at (link_of p m.0) k m.2)).entry in
      let f = subst (λ (d : Located). (Contains ws d.home) × (Contains (items_of d.home) d.item) × (is_visited (is_ada (class_of_unit p d.home)) (items_of d.home) d.item ≡ true)) (sym entry) (followed_in ws m.0 m.1) in
      record { home = f.0; item = f.1; visited = f.2 }

  -- ---- entries of a link

  linkage_unit : (e : Entry) (name : Option (List ℕ)) (n : Entry) → linkage_entry_of e name ≡ Some n → n.unit ≡ e.unit
  unfolding linkage_entry_of
  linkage_unit e None n is = absurd (cc is)
  linkage_unit e (Some name) n is = ap (λ (x : Entry). x.unit) (sym (cond_some (may_have_linkage e.tag && not (bytes_eq name e.name)) (record e { linkage = true; name = name; tail = 0 }) n is).1)

  pub in_optional : (o : Option Entry) (y : Entry) → Contains (option_to_list o) y → o ≡ Some y
  in_optional None y c = absurd (omega (arith, c.1))
  in_optional (Some n) y c = ⊎_elim (λ (same : n ≡ y). ap (λ (x : Entry). Some x) same) (λ (later : Contains [] y). absurd (omega (arith, later.1))) (contains_cases n [] y c)

  entry_unit : (k : Link) → (entry_of k).unit ≡ k.entry.home.number
  unfolding entry_of
  entry_unit k = refl

  pub link_unit : (k : Link) (y : Entry) → Contains (entries_of_link p k) y → y.unit ≡ k.entry.home.number
  unfolding entries_of_link
  link_unit k y c = ⊎_elim
      (λ (same : entry_of k ≡ y). ap (λ (x : Entry). x.unit) (sym same) ∙ entry_unit k)
      (λ (later : Contains (option_to_list (linkage_entry_of (entry_of k) (linkage_name_of p k.chain))) y).
      linkage_unit (entry_of k) (linkage_name_of p k.chain) y (in_optional (linkage_entry_of (entry_of k) (linkage_name_of p k.chain)) y later) ∙ entry_unit k)
      (contains_cases (entry_of k) (option_to_list (linkage_entry_of (entry_of k) (linkage_name_of p k.chain))) y c)

  -- ---- runs

  module _ (ss : List Section) where
    pub own_run : (run : List Unit_) (ws : List Walked) (ks : List Link) → each (scanned ss) run ≡ Ok ws → links_in p ws ≡ Ok ks → Own run (entries_of p ks)
    unfolding entries_of
    own_run run ws ks read is e c =
        let k = of_flat_map (entries_of_link p) (indexed_in ks) e c in
        let l = of_filter is_link_indexed ks k.0 k.1 in
        let f = link_is_followed ws ks is k.0 l.0 in
        let u = each_member (scanned ss) run ws read k.0.entry.home f.home in
        (u.0, u.1, link_unit k.0 e k.2 ∙ (walk_parts ss u.0 k.0.entry.home (scanned_walked ss u.0 k.0.entry.home u.2).0).0)

    pub own_runs : (runs : List (List Unit_)) (wss : List (List Walked)) (kss : List (List Link)) → AllZip (λ run ws. each (scanned ss) run ≡ Ok ws) runs wss → AllZip (λ ws ks. links_in p ws ≡ Ok ks) wss kss → AllZip Own runs (map (entries_of p) kss)
    own_runs [] [] [] y z = tt
    own_runs [] [] (ks ∷ kss) y z = absurd z
    own_runs [] (ws ∷ wss) kss y z = absurd y
    own_runs (run ∷ runs) [] kss y z = absurd y
    own_runs (run ∷ runs) (ws ∷ wss) [] y z = absurd z
    own_runs (run ∷ runs) (ws ∷ wss) (ks ∷ kss) y z = (own_run run ws ks y.0 z.0, own_runs runs wss kss y.1 z.1)
