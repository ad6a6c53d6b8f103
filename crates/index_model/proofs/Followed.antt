-- The links of units: one of each followed entry.
use Rattle.std.proofs.Common.{◌≡◌, ℕ, zero, suc, Bool, true, false, cond, eqb, not, ◌&&◌, ◌||◌, List, [], ◌∷◌, ◌++◌, map, filter, flat_map, Option, Some, None, Result, Ok, Err, refl, sym, ap, subst, ◌∙◌, arith, ⊎_elim, unwrap_or}
use Rattle.std.specs.Prelude.{Contains, is_none}
use Rattle.std.specs.Option.{option_or}
use Rattle.std.proofs.lemmas.Bool.{true≢false, and_parts, and_from, or_right}
use Rattle.std.proofs.lemmas.List.Elements.{filter-append}
use Rattle.common_laws.proofs.Members.{contains_cases}
use Rattle.ix_base.specs.declared.code.TheConstants.{NAME_TOO_LONG}
use Rattle.ix_base.specs.declared.fault.Fault.{Fault}
use Rattle.index_model.specs.declared.rules.Parent.{Parent}
use Rattle.index_model.specs.declared.rules.Parent.TheVariants.{Root, Other, Seen}
use Rattle.index_model.specs.Meaning.{◌>>=◌, ◌>>◌, holds_or, at_place, each}
use Rattle.index_model.specs.Tags.{is_record_tag, namespace, enumeration, subprogram}
use Rattle.index_model.specs.Walk.{Item, parent_of}
use Rattle.index_model.specs.Program.{Walked, Program, Located, items_of, located, root_of}
use Rattle.index_model.specs.Languages.{class_of, class_of_unit, language_of, language_by_import, own_language}
use Rattle.index_model.specs.Chains.{chain_of, chain_end, spelled_name}
use Rattle.index_model.specs.Rules.{is_in_table, is_visited, is_visited_at, is_visited_under, parent_as, opens, is_ada}
use Rattle.index_model.specs.Names.{Member, scope_path}
use Rattle.index_model.specs.Links.{Link, link_of, is_link_indexed, is_within_limit, qualified_of, followed}
use Rattle.index_model.specs.ShardParts.{is_kept, is_partial, may_be_ada, may_be_followed}
use Rattle.index_model.proofs.Meanings.{bind_ok, holds_ok, same_ok}
use Rattle.index_model.proofs.Located.{of_located}
use Rattle.common_laws.proofs.Filters.{filter_agree}

module _ (p : Program) where
  -- the entry is followed in its own unit
  abbrev pub is_followed : Located → Bool
  is_followed d = is_in_table d.item.tag && is_visited (is_ada (class_of_unit p d.home)) (items_of d.home) d.item

  pub in_one : (w : Walked) → followed p w ≡ filter is_followed (located w)
  unfolding followed
  in_one w = filter_agree (λ d. is_in_table d.item.tag && is_visited (is_ada (class_of_unit p w)) (items_of w) d.item) is_followed (located w) (λ d c.
      ap (λ (v : Walked). is_in_table d.item.tag && is_visited (is_ada (class_of_unit p v)) (items_of v) d.item) (sym (of_located w d c).0))

  pub all_followed : (ws : List Walked) → flat_map (followed p) ws ≡ filter is_followed (flat_map located ws)
  all_followed [] = refl
  all_followed (w ∷ ws) =
      ap (λ (xs : List Located). xs ++ flat_map (followed p) ws) (in_one w) ∙
      ap (λ (xs : List Located). filter is_followed (located w) ++ xs) (all_followed ws) ∙
      sym (filter-append is_followed (located w) (flat_map located ws))

  -- ---- links

  module _ (d : Located) where
    abbrev made : List Located → Option (List ℕ) → List Member → Link
    made chain spelled path = record { entry = d; class = class_of_unit p d.home; chain = chain; spelled = spelled; path = path }

    abbrev tested : List Located → Option (List ℕ) → List Member → Result Link ℕ
    tested chain spelled path = holds_or (not (is_link_indexed (made chain spelled path)) || is_within_limit (qualified_of (made chain spelled path))) NAME_TOO_LONG >> Ok (made chain spelled path)

    abbrev with_path : List Located → Option (List ℕ) → Result Link ℕ
    with_path chain spelled = scope_path p (chain_end d chain) >>= tested chain spelled

    link_entry : (k : Link) → link_of p d ≡ Ok k → k.entry ≡ d
    unfolding link_of
    link_entry k is =
        let a = bind_ok (chain_of p d) (λ chain. spelled_name p d chain >>= with_path chain) k is in
        let b = bind_ok (spelled_name p d a.0) (with_path a.0) k a.2 in
        let c = bind_ok (scope_path p (chain_end d a.0)) (tested a.0 b.0) k b.2 in
        let h = holds_ok (not (is_link_indexed (made a.0 b.0 c.0)) || is_within_limit (qualified_of (made a.0 b.0 c.0))) NAME_TOO_LONG (Ok (made a.0 b.0 c.0)) k c.2 in
        ap (λ (x : Link). x.entry) (sym (same_ok (made a.0 b.0 c.0) k h.1))

    abbrev pub placed : Result Link Fault
    placed = at_place d.item.at (link_of p d)

    pub placed_entry : (k : Link) → placed ≡ Ok k → k.entry ≡ d
    placed_entry k is = from (link_of p d) refl is
      where
        from : (r : Result Link ℕ) → link_of p d ≡ r → at_place d.item.at r ≡ Ok k → k.entry ≡ d
        from (Ok x) e h = link_entry k (e ∙ ap {B = Result Link ℕ} (λ (y : Link). Ok y) (same_ok x k h))
        from (Err code) e h = absurd cc

  -- the links are those of these entries, in order, and each is the link of its entry
  pub record AreLinks (ds : List Located) (ks : List Link) : Type 0 where
    pub entries : map (λ k. k.entry) ks ≡ ds
    pub own : (k : Link) → Contains ks k → placed k.entry ≡ Ok k

  pub links_are : (ds : List Located) (ks : List Link) → each placed ds ≡ Ok ks → AreLinks ds ks
  links_are [] ks is = subst (AreLinks []) (same_ok [] ks is) (record { entries = refl; own = λ k c. absurd (omega (arith, c.1)) })
  links_are (d ∷ ds) ks is =
      let a = bind_ok (placed d) (λ y. each placed ds >>= λ ys. Ok (y ∷ ys)) ks is in
      let b = bind_ok (each placed ds) (λ ys. Ok (a.0 ∷ ys)) ks a.2 in
      let rest = links_are ds b.0 b.1 in
      let entry : a.0.entry ≡ d = placed_entry d a.0 a.1 in
      let own : placed a.0.entry ≡ Ok a.0 = ap (λ (x : Located). placed x) entry ∙ a.1 in
      subst (AreLinks (d ∷ ds)) (same_ok (a.0 ∷ b.0) ks b.2) (record {
        entries = ap (λ (x : Located). x ∷ map (λ (k : Link). k.entry) b.0) entry ∙ ap (λ (xs : List Located). d ∷ xs) rest.entries;
        own = λ k c. ⊎_elim (λ (same : a.0 ≡ k). subst (λ (x : Link). placed x.entry ≡ Ok x) same own) (λ (l : Contains b.0 k). rest.own k l) (contains_cases a.0 b.0 k c);
      })

-- ---- a followed entry has a node

-- what is visited is visited too where the unit counts as Ada
module _ (ds : List Item) where
  opens_more : (b : Bool) (tag : ℕ) → opens b tag ≡ true → opens true tag ≡ true
  opens_more true tag h = h
  opens_more false tag h = by (eqb tag namespace) (is_record_tag tag) (eqb tag enumeration) (eqb tag subprogram) h
    where
      by : (x y z s : Bool) → (((x || y) || z) || (false && s)) ≡ true → (((x || y) || z) || (true && s)) ≡ true
      by true y z s h = refl
      by false true z s h = refl
      by false false true s h = refl
      by false false false true h = refl
      by false false false false h = h

  under_more : (b : Bool) (parent : Parent) → is_visited_under parent b ≡ true → is_visited_under parent true ≡ true
  under_more b Root h = h
  under_more b Other h = h
  under_more b (Seen tag) h = opens_more b tag h

  pub visited_more : (n : ℕ) (b : Bool) (d : Item) → is_visited_at n b ds d ≡ true → is_visited_at n true ds d ≡ true
  unfolding is_visited_at
  visited_more zero b d h = h
  visited_more (suc n) b d h = by (visited_more n b) (parent_of ds d) h
    where
      seen : (e : Item) (top x y : Bool) → (x ≡ true → y ≡ true) → is_visited_under (cond top Root (cond x (Seen e.tag) Other)) b ≡ true → is_visited_under (cond top Root (cond y (Seen e.tag) Other)) true ≡ true
      seen e true x y up h = refl
      seen e false true true up h = opens_more b e.tag h
      seen e false true false up h = absurd (true≢false (sym (up refl)))
      seen e false false y up h = absurd (true≢false (sym h))

      by : ((e : Item) → is_visited_at n b ds e ≡ true → is_visited_at n true ds e ≡ true) → (o : Option Item) → is_visited_under (parent_as o (λ e. is_visited_at n b ds e)) b ≡ true → is_visited_under (parent_as o (λ e. is_visited_at n true ds e)) true ≡ true
      by more None h = h
      by more (Some e) h = seen e (eqb e.depth 0) (is_visited_at n b ds e) (is_visited_at n true ds e) (more e) h

-- only the root of a partial unit has the language of another
no_import : (p : Program) (root : Option Item) → is_partial root ≡ false → language_by_import p root ≡ None
unfolding language_by_import
no_import p None off = refl
no_import p (Some r) off = rw off refl

-- what counts as Ada may count as Ada
pub ada_may : (p : Program) (w : Walked) → is_ada (class_of_unit p w) ≡ true → may_be_ada w ≡ true
unfolding may_be_ada language_of class_of
ada_may p w h = by (own_language w) refl (is_partial (root_of w)) refl h
  where
    by : (own : Option ℕ) → own_language w ≡ own → (partial : Bool) → is_partial (root_of w) ≡ partial →
        is_ada (class_of (unwrap_or (option_or own (language_by_import p (root_of w))) 0)) ≡ true → (is_ada (class_of (unwrap_or own 0)) || (partial && is_none own)) ≡ true
    by (Some l) e partial f h = ap (λ (b : Bool). b || (partial && false)) h
    by None e true f h = refl
    by None e false f h = absurd (true≢false (sym h ∙ ap (λ (o : Option ℕ). is_ada (class_of (unwrap_or (option_or None o) 0))) (no_import p (root_of w) f)))

pub followed_kept : (p : Program) (d : Located) → is_followed p d ≡ true → is_kept d.home d.item ≡ true
unfolding may_be_followed
followed_kept p d h = or_right (eqb d.item.depth 0) (is_in_table d.item.tag && is_visited (may_be_ada d.home) (items_of d.home) d.item) (and_from (is_in_table d.item.tag) (is_visited (may_be_ada d.home) (items_of d.home) d.item) parts.0 (by (is_ada (class_of_unit p d.home)) refl parts.1))
  where
    parts : (is_in_table d.item.tag ≡ true) × (is_visited (is_ada (class_of_unit p d.home)) (items_of d.home) d.item ≡ true)
    parts = and_parts (is_in_table d.item.tag) (is_visited (is_ada (class_of_unit p d.home)) (items_of d.home) d.item) h

    more : (may : Bool) → may ≡ true → is_visited true (items_of d.home) d.item ≡ true → is_visited may (items_of d.home) d.item ≡ true
    more may e v = ap (λ (b : Bool). is_visited b (items_of d.home) d.item) e ∙ v

    less : (may : Bool) → is_visited false (items_of d.home) d.item ≡ true → is_visited may (items_of d.home) d.item ≡ true
    less true v = visited_more (items_of d.home) d.item.depth false d.item v
    less false v = v

    by : (b : Bool) → is_ada (class_of_unit p d.home) ≡ b → is_visited b (items_of d.home) d.item ≡ true → is_visited (may_be_ada d.home) (items_of d.home) d.item ≡ true
    by true e v = more (may_be_ada d.home) (ada_may p d.home e) v
    by false e v = less (may_be_ada d.home) v
