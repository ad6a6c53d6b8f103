-- What links say of indexed entries: each is that of an entry of the program.
use Rattle.std.proofs.Common.{◌≡◌, ℕ, zero, suc, ◌<◌, true, length, List, [], ◌∷◌, ◌++◌, flat_map, Some, Result, Ok, refl, sym, ap, subst, ◌∙◌, arith}
use Rattle.std.specs.Prelude.{Contains, slice_get}
use Rattle.std.specs.List.{AllZip}
use Rattle.std.proofs.lemmas.List.Concat.{flat_map-append}
use Rattle.std.proofs.lemmas.List.Elements.{Contains-append_left, Contains-append_right, filter-append}
use Rattle.std.proofs.lemmas.Option.{same_Some}
use Rattle.common_laws.proofs.Members.{contains_here, contains_later, of_filter, to_map}
use Rattle.common_laws.proofs.Lists.{all_zip_append}
use Rattle.ix_base.specs.declared.fault.Fault.{Fault}
use Rattle.index_model.specs.declared.shard.Linked.{Linked}
use Rattle.index_model.specs.declared.shard.LinkedEntry.{LinkedEntry}
use Rattle.index_model.specs.Links.{Link, followed, indexed_in, is_link_indexed, link_of, links_in}
use Rattle.index_model.specs.Meaning.{at_place, each}
use Rattle.index_model.specs.Program.{Walked, Program, Located, located}
use Rattle.index_model.specs.Shards.{IsLinkedEntryOf, IsRunOf}
use Rattle.index_model.proofs.EachLaws.{in_two}
use Rattle.index_model.proofs.Followed.{all_followed, is_followed, links_are}
use Rattle.index_model.proofs.Meanings.{at_place_ok, same_ok}
use Rattle.index_model.proofs.ShardRoots.{joined}
use Rattle.parent_resolve.specs.Followed.{all_entries}
use Rattle.range_lists.specs.Units.{IsLinkedRun}
use Rattle.qualified_names.specs.Files.{all_linked}
use Rattle.qualified_names.specs.Indexed.{IsIndexed}

-- ---- lists

pub zip_at : {A B : Type 0} (R : A → B → Type 0) (xs : List A) (ys : List B) → AllZip R xs ys → (k : ℕ) (x : A) (y : B) → slice_get xs k ≡ Some x → slice_get ys k ≡ Some y → R x y
zip_at R [] ys z k x y hx hy = absurd cc
zip_at R (u ∷ us) [] z k x y hx hy = absurd cc
zip_at R (u ∷ us) (v ∷ vs) z zero x y hx hy = subst (R x) (same_Some v y hy) (subst (λ a. R a v) (same_Some u x hx) z.0)
zip_at R (u ∷ us) (v ∷ vs) z (suc k) x y hx hy = zip_at R us vs z.1 k x y hx hy

-- a place within a list has an item
pub slice_there : {A : Type 0} (xs : List A) (k : ℕ) → k < length xs → (x : A) × (slice_get xs k ≡ Some x)
slice_there [] k lt = absurd (omega (arith, lt))
slice_there (x ∷ xs) zero lt = (x, refl)
slice_there (x ∷ xs) (suc k) lt = slice_there xs k (omega (arith, lt))

-- the first of a zipped list has a partner
pub record Headed {A B : Type 0} (R : A → B → Type 0) (x : A) (xs : List A) (ys : List B) : Type 0 where
  pub head : B
  pub rest : List B
  pub is : ys ≡ head ∷ rest
  pub first : R x head
  pub others : AllZip R xs rest

pub headed : {A B : Type 0} (R : A → B → Type 0) (x : A) (xs : List A) (ys : List B) → AllZip R (x ∷ xs) ys → Headed R x xs ys
headed R x xs [] z = absurd z
headed R x xs (y ∷ ys) z = record { head = y; rest = ys; is = refl; first = z.0; others = z.1 }

-- what is known of each partner joins the relation
zip_with : {A B : Type 0} (R S : A → B → Type 0) (P : B → Type 0) → ((x : A) (y : B) → P y → R x y → S x y) → (xs : List A) (ys : List B) → ((y : B) → Contains ys y → P y) → AllZip R xs ys → AllZip S xs ys
zip_with R S P both [] [] each_ z = tt
zip_with R S P both [] (y ∷ ys) each_ z = absurd z
zip_with R S P both (x ∷ xs) [] each_ z = absurd z
zip_with R S P both (x ∷ xs) (y ∷ ys) each_ z = (both x y (each_ y (contains_here y ys)) z.0, zip_with R S P both xs ys (λ v c. each_ v (contains_later y ys v c)) z.1)

-- ---- links

module _ (p : Program) where
  abbrev pub one : Located → Result Link Fault
  one d = at_place d.item.at (link_of p d)

  -- the link of an indexed entry of the program
  record IsOwn (k : Link) : Type 0 where
    own : link_of p k.entry ≡ Ok k
    there : Contains (all_entries p) k.entry
    indexed : is_link_indexed k ≡ true

  own_link : (ws : List Walked) → ((d : Located) → Contains (flat_map located ws) d → Contains (all_entries p) d) → (ks : List Link) → each one (flat_map (followed p) ws) ≡ Ok ks → (k : Link) → Contains (indexed_in ks) k → IsOwn k
  own_link ws there ks is k c =
      let inside = of_filter is_link_indexed ks k c in
      let a = links_are p (flat_map (followed p) ws) ks is in
      let among = subst (λ (ds : List Located). Contains ds k.entry) (a.entries ∙ all_followed p ws) (to_map (λ (l : Link). l.entry) ks k inside.0) in
      record {
        own = at_place_ok k.entry.item.at (link_of p k.entry) k (a.own k inside.0);
        there = there k.entry (of_filter (is_followed p) (flat_map located ws) k.entry among).0;
        indexed = inside.1;
      }

  pub zip_indexed : (ws : List Walked) → ((d : Located) → Contains (flat_map located ws) d → Contains (all_entries p) d) → (ks : List Link) → each one (flat_map (followed p) ws) ≡ Ok ks → (es : List LinkedEntry) → AllZip (IsLinkedEntryOf p) es (indexed_in ks) → AllZip (IsIndexed p) es (indexed_in ks)
  zip_indexed ws there ks is es z =
      zip_with (IsLinkedEntryOf p) (IsIndexed p) IsOwn (λ e k o h. record { own = o.own; there = o.there; links = h; indexed = o.indexed }) es (indexed_in ks) (own_link ws there ks is) z

  -- the entries of a run are entries of the program
  run_there : (run : List Walked) → IsRunOf p run → (d : Located) → Contains (flat_map located run) d → Contains (all_entries p) d
  run_there run r d c =
      let inside = subst (λ (ds : List Located). Contains ds d) (sym (flat_map-append located run r.after)) (Contains-append_left (flat_map located run) (flat_map located r.after) d c) in
      let behind = Contains-append_right (flat_map located r.before) (flat_map located (run ++ r.after)) d inside in
      subst (λ (ws : List Walked). Contains (flat_map located ws) d) (sym r.is) (subst (λ (ds : List Located). Contains ds d) (sym (flat_map-append located r.before (run ++ r.after))) behind)

  -- what is said of the indexed entries of a run
  pub of_run : (run : List Walked) → IsRunOf p run → (ks : List Link) → links_in p run ≡ Ok ks → (es : List LinkedEntry) → AllZip (IsLinkedEntryOf p) es (indexed_in ks) → AllZip (IsIndexed p) es (indexed_in ks)
  unfolding links_in
  of_run run r ks is es z = zip_indexed run (run_there run r) ks is es z

  -- what is said of those of all runs
  all_told : (linked : List Linked) (runs : List (List Walked)) → AllZip (IsLinkedRun p) linked runs → (ks : List Link) → each one (flat_map (followed p) (joined runs)) ≡ Ok ks → AllZip (IsLinkedEntryOf p) (all_linked linked) (indexed_in ks)
  unfolding links_in
  all_told [] [] z ks is = subst (λ (xs : List Link). AllZip (IsLinkedEntryOf p) [] (indexed_in xs)) (same_ok [] ks is) tt
  all_told [] (run ∷ runs) z ks is = absurd z
  all_told (l ∷ linked) [] z ks is = absurd z
  all_told (l ∷ linked) (run ∷ runs) z ks is =
      let own : each one (flat_map (followed p) run ++ flat_map (followed p) (joined runs)) ≡ Ok ks = ap (each one) (sym (flat_map-append (followed p) run (joined runs))) ∙ is in
      let t = in_two one (flat_map (followed p) run) (flat_map (followed p) (joined runs)) ks own in
      let same : z.0.links ≡ t.front = same_ok z.0.links t.front (sym z.0.given ∙ t.front_is) in
      let first = subst (λ (xs : List Link). AllZip (IsLinkedEntryOf p) l.entries (indexed_in xs)) same z.0.is in
      let rest = all_told linked runs z.1 t.back t.back_is in
      subst (λ (xs : List Link). AllZip (IsLinkedEntryOf p) (l.entries ++ all_linked linked) (indexed_in xs)) t.whole
      (subst (λ (xs : List Link). AllZip (IsLinkedEntryOf p) (l.entries ++ all_linked linked) xs) (sym (filter-append is_link_indexed t.front t.back))
      (all_zip_append (IsLinkedEntryOf p) l.entries (indexed_in t.front) (all_linked linked) (indexed_in t.back) first rest))

  -- all of them are those of the file's links
  pub all_of : (linked : List Linked) (runs : List (List Walked)) → AllZip (IsLinkedRun p) linked runs → joined runs ≡ p.walks → (ks : List Link) → each one (flat_map (followed p) p.walks) ≡ Ok ks → AllZip (IsIndexed p) (all_linked linked) (indexed_in ks)
  all_of linked runs z whole ks is =
      zip_indexed p.walks (λ d c. c) ks is (all_linked linked) (all_told linked runs z ks (ap (λ (ws : List Walked). each one (flat_map (followed p) ws)) whole ∙ is))
