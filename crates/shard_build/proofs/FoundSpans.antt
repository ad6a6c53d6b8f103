-- What a shard says of an offset: the node of the entry there, or the span of its parent.
use Rattle.std.proofs.Common.{◌≡◌, ℕ, ◌<◌, Bool, eqb, leb, ltb, ◌&&◌, ◌||◌, List, Option, Some, None, Ok, refl, sym, ap, subst, ◌∙◌, arith, ⊎_elim}
use Rattle.std.specs.Prelude.{Contains, filter, find, flat_map}
use Rattle.std.specs.Option.{option_map}
use Rattle.std.proofs.lemmas.Bool.{and_parts, and_from, eqb-true, eq-eqb, le-leb, lt-ltb, cases_eq}
use Rattle.std.proofs.lemmas.Option.{same_Some}
use Rattle.common_laws.proofs.Members.{of_map, to_map, of_filter, of_flat_map, to_flat_map, of_find}
use Rattle.common_laws.proofs.Options.{of_option_map}
use Rattle.index_model.specs.declared.shard.Node.{Node}
use Rattle.index_model.specs.declared.shard.Shard.{Shard}
use Rattle.index_model.specs.declared.shard.Span.{Span}
use Rattle.index_model.specs.Faults.{program_of}
use Rattle.index_model.specs.LawsSpans.{Holds}
use Rattle.index_model.specs.NodeSeen.{node_seen}
use Rattle.index_model.specs.Parents.{IsParentAt, parent_offset}
use Rattle.index_model.specs.Program.{Walked, Program, Located, items_of, located, item_with_offset}
use Rattle.index_model.specs.ShardParts.{may_be_followed, span_of, spans_of, item_in_span}
use Rattle.index_model.specs.Shards.{StandsFor, IsRunOf}
use Rattle.index_model.specs.Walk.{Item, parent_of}
use Rattle.index_model.proofs.InnermostLaws.{parent_innermost}
use Rattle.index_model.proofs.OrderLaws.{walks_in_order}
use Rattle.index_model.proofs.UnitsApart.{run_apart}
use Rattle.index_model.proofs.SpanOrder.{entry_is}
use Rattle.index_model.proofs.Located.{at_home}
use Rattle.shard_build.specs.Entries.{IsNodeIn}
use Rattle.shard_build.specs.Found.{IsWithin, IsSpanOfParent, located_in_span}
use Rattle.shard_build.proofs.FoundNodes.{has_offset, kept_there, not_kept}
use Rattle.shard_build.proofs.OnePlace.{find_none, is_at, home_of, item_is_at, one_place, in_program}

-- the entry at the offset in a span
abbrev stands_in : Span → ℕ → Item → Bool
stands_in s o d = eqb d.at o && leb s.from o && ltb o s.to

number_is : (w : Walked) (e : Item) → (span_of w e).unit ≡ w.number
unfolding span_of
number_is w e = refl

-- the entry of a span
span_item : (w : Walked) (s : Span) → Contains (spans_of w) s → (e : Item) × Contains (items_of w) e × (span_of w e ≡ s)
span_item w s c =
    let m = of_map (span_of w) (filter (λ (x : Item). x.children) (items_of w)) s c in
    (m.0, (of_filter (λ (x : Item). x.children) (items_of w) m.0 m.1).0, m.2)

-- a span has the number of its unit
pub span_number : (w : Walked) (s : Span) → Contains (spans_of w) s → s.unit ≡ w.number
span_number w s c = let e = span_item w s c in ap (λ (x : Span). x.unit) (sym e.2) ∙ number_is w e.0

-- an entry that is found in a span is one of the unit
pub in_span : (w : Walked) (s : Span) (o : ℕ) (d : Item) → item_in_span w s o ≡ Some d → Contains (items_of w) d × (d.at ≡ o)
in_span w s o d found =
    let m = of_find (stands_in s o) (items_of w) d found in
    (m.0, eqb-true d.at o (and_parts (eqb d.at o) (leb s.from o) (and_parts (eqb d.at o && leb s.from o) (ltb o s.to) m.1).0).0)

offset_of_parent : (w : Walked) (d e : Item) → parent_of (items_of w) d ≡ Some e → parent_offset (at_home w d) ≡ Some e.at
offset_of_parent w d e is = ap (λ (x : Option Item). option_map (λ (l : Located). l.item.at) (option_map (at_home w) x)) is

module _ (f : List ℕ) (p : Program) (is : program_of f ≡ Ok p) (s : Shard) (run : List Walked) (part : IsRunOf p run) (stands : StandsFor p.sections s run) (o : ℕ) where
  abbrev entries : List Located
  entries = flat_map located run

  in_run : (w : Walked) → Contains run w → (d : Item) → Contains (items_of w) d → Contains entries (at_home w d)
  in_run w wc d dc = to_flat_map located run w (at_home w d) wc (to_map (at_home w) (items_of w) d dc)

  -- the node is that of the entry
  pub kept_found : (n : Node) → find (has_offset o) s.nodes ≡ Some (node_seen n) → IsNodeIn p.sections (Some n) (item_with_offset p o)
  kept_found n found =
      let k = kept_there p.sections s run (run_apart f p run is part) stands o (node_seen n) found in
      let v = of_flat_map located run k.0 k.1 in
      let whole = to_flat_map located p.walks v.0 k.0 (in_program p run part v.0 v.1) v.2 in
      subst (IsNodeIn p.sections (Some n)) (sym (is_at f p is o k.0 whole k.3)) k.2

  module _ (own : (d : Located) → item_with_offset p o ≡ Some d → Contains run d.home) (none : find (has_offset o) s.nodes ≡ None) where
    -- what is known of an entry at the offset
    record Parent (d : Located) : Type 0 where
      parent : Item
      member : Contains (items_of d.home) parent
      offset : parent_offset d ≡ Some parent.at
      holds : Holds (span_of d.home parent) o

    parent_is : (d : Located) → item_with_offset p o ≡ Some d → Parent d
    parent_is d found =
        let h = home_of f p is o d found in
        let here = own d found in
        let walk = (run_apart f p run is part).walks d.home here in
        ⊎_elim
        (λ (top : d.item.depth ≡ 0).
        absurd (not_kept p.sections s run (run_apart f p run is part) stands o none d (in_run d.home here d.item h.1) h.2 (ap (λ (b : Bool). b || may_be_followed d.home d.item) (eq-eqb d.item.depth 0 top))))
        (λ (other : d.item.depth ≡ 0 → ⊥).
        let deep : 0 < d.item.depth = omega (arith, other) in
        let i = parent_innermost p.sections walk.0 d.home walk.1 d.item h.1 deep in
        let has = (walks_in_order p.sections walk.0 d.home walk.1).parents d.item h.1 deep in
        let same : has.parent ≡ i.0 = same_Some has.parent i.0 (sym has.is ∙ i.1) in
        record {
          parent = i.0;
          member = subst (Contains (items_of d.home)) same has.member;
          offset = offset_of_parent d.home d.item i.0 i.1;
          holds = subst (Holds (span_of d.home i.0)) h.2 i.2.holds;
        })
        (cases_eq d.item.depth 0)

    -- without a span no entry stands there
    pub nowhere_found : IsParentAt s o None → item_with_offset p o ≡ None
    nowhere_found parent = by_entry (item_with_offset p o) refl
      where
        by_entry : (q : Option Located) → item_with_offset p o ≡ q → item_with_offset p o ≡ None
        by_entry None e = e
        by_entry (Some d) e =
            let h = home_of f p is o d e in
            let k = parent_is d e in
            let says = parent f p run is part stands d (in_run d.home (own d e) d.item h.1) h.2 in
            absurd (let stuck = says ∙ k.offset in cc)

    module _ (t : Span) (parent : IsParentAt s o (Some t.entry)) (w : Walked) (wc : Contains run w) (tc : Contains (spans_of w) t) where
      parent_span : IsSpanOfParent w t o
      parent_span d found =
          let m = of_option_map (at_home w) (item_in_span w t o) d found in
          let i = in_span w t o m.0 m.1 in
          subst (λ (x : Located). parent_offset x ≡ Some t.entry) m.2 (sym (parent f p run is part stands (at_home w m.0) (in_run w wc m.0 i.0) i.1))

      -- an entry at the offset stands in the span
      stands_there : (d : Located) → item_with_offset p o ≡ Some d → Contains (items_of w) d.item × Holds t o
      stands_there d found =
          let h = home_of f p is o d found in
          let here = own d found in
          let k = parent_is d found in
          let says = parent f p run is part stands d (in_run d.home here d.item h.1) h.2 in
          let x = span_item w t tc in
          let at : x.0.at ≡ k.parent.at = sym (entry_is w x.0) ∙ ap (λ (y : Span). y.entry) x.2 ∙ same_Some t.entry k.parent.at (says ∙ k.offset) in
          let one = one_place f p is w d.home (in_program p run part w wc) (in_program p run part d.home here) x.0 k.parent x.1 k.member at in
          let home : d.home ≡ w = sym (ap (λ (l : Located). l.home) one) in
          let span : span_of d.home k.parent ≡ t = sym (ap (λ (l : Located). span_of l.home l.item) one) ∙ x.2 in
          (subst (λ (v : Walked). Contains (items_of v) d.item) home h.1, subst (λ (y : Span). Holds y o) span k.holds)

      same_found : item_with_offset p o ≡ located_in_span w t o
      same_found = by_item (item_in_span w t o) refl
        where
          by_entry : item_in_span w t o ≡ None → (q : Option Located) → item_with_offset p o ≡ q → item_with_offset p o ≡ None
          by_entry missing None e = e
          by_entry missing (Some d) e =
              let there = stands_there d e in
              let h = home_of f p is o d e in
              let begun = and_from (eqb d.item.at o) (leb t.from o) (eq-eqb d.item.at o h.2) (le-leb t.from o there.1.0) in
              absurd (find_none (stands_in t o) (items_of w) missing d.item there.0 (and_from (eqb d.item.at o && leb t.from o) (ltb o t.to) begun (lt-ltb o t.to there.1.1)))

          by_item : (r : Option Item) → item_in_span w t o ≡ r → item_with_offset p o ≡ option_map (at_home w) (item_in_span w t o)
          by_item (Some x) e =
              let i = in_span w t o x e in
              item_is_at f p is w (in_program p run part w wc) x i.0 o i.1 ∙ ap (option_map (at_home w)) (sym e)
          by_item None e = by_entry e (item_with_offset p o) refl ∙ ap (option_map (at_home w)) (sym e)

    -- an entry at the offset stands in the span of its parent
    pub within_found : (t : Span) → IsParentAt s o (Some t.entry) → Contains s.spans t → IsWithin p o t
    within_found t parent member =
        let m = of_flat_map spans_of run t (subst (λ (xs : List Span). Contains xs t) stands.spans member) in
        record {
          home = m.0;
          unit = in_program p run part m.0 m.1;
          span = m.2;
          same = same_found t parent m.0 m.1 m.2;
          parent = parent_span t parent m.0 m.1 m.2;
        }
