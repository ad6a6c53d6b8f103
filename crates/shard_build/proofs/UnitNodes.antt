-- The nodes of all entries of a unit, by their offsets.
use Rattle.std.proofs.Common.{◌≡◌, ℕ, Option, Some, None, Ok, List, refl, sym, ap, subst, ◌∙◌}
use Rattle.std.specs.Prelude.{Contains, find, option_map}
use Rattle.std.specs.List.{AllZip}
use Rattle.std.specs.List.Sorted.{IsNonDecreasingBy}
use Rattle.std.proofs.lemmas.Option.{same_Some}
use Rattle.common_laws.proofs.Members.{to_map, to_flat_map}
use Rattle.common_laws.proofs.Options.{of_option_map}
use Rattle.index_model.specs.declared.shard.Node.{Node}
use Rattle.index_model.specs.declared.shard.Span.{Span}
use Rattle.index_model.specs.Faults.{program_of}
use Rattle.index_model.specs.NodeSeen.{NodeSeen, node_seen}
use Rattle.index_model.specs.Program.{Walked, Program, Located, items_of, located, item_with_offset}
use Rattle.index_model.specs.Sections.{Section}
use Rattle.index_model.specs.ShardParts.{IsSeenOf, item_in_span}
use Rattle.index_model.proofs.Located.{Before, at_home, items_rise}
use Rattle.index_model.proofs.OrderLaws.{walk_rises}
use Rattle.index_model.proofs.Pairs.{pairs_map}
use Rattle.index_model.proofs.UnitsApart.{program_apart}
use Rattle.shard_build.specs.Entries.{IsNodeIn}
use Rattle.shard_build.specs.Found.{IsUnitAt, located_in_span}
use Rattle.shard_build.proofs.FoundNodes.{has_offset, offsets_rise_by, entry_there, none_there}
use Rattle.shard_build.proofs.OnePlace.{is_at, home_of}
use Rattle.shard_build.proofs.UnitNumbers.{same_number}

module _ (f : List ℕ) (p : Program) (is : program_of f ≡ Ok p) (w : Walked) (wc : Contains p.walks w) (nodes : List NodeSeen) (are : AllZip (IsSeenOf p.sections) nodes (located w)) where
  -- their offsets rise
  pub unit_rises : IsNonDecreasingBy (λ n. n.facts.offset) nodes
  unit_rises =
      let a = (program_apart f p is).walks w wc in
      let r = walk_rises p.sections a.0 w a.1 in
      offsets_rise_by p.sections nodes (located w) are (pairs_map Before (at_home w) (items_of w) (items_rise r.0 (items_of w) r.1))

  module _ (o : ℕ) (own : (d : Located) → item_with_offset p o ≡ Some d → d.home ≡ w) where
    -- the node at an offset is that of the file's entry there
    pub node_in_unit : (n : Option Node) → option_map node_seen n ≡ find (has_offset o) nodes → IsNodeIn p.sections n (item_with_offset p o)
    node_in_unit (Some n) found =
        let e = entry_there p.sections nodes (located w) are o (node_seen n) (sym found) in
        let whole = to_flat_map located p.walks w e.0 wc e.1 in
        subst (IsNodeIn p.sections (Some n)) (sym (is_at f p is o e.0 whole e.3)) e.2
    node_in_unit None found = by_entry (item_with_offset p o) refl
      where
        by_entry : (q : Option Located) → item_with_offset p o ≡ q → IsNodeIn p.sections None (item_with_offset p o)
        by_entry None e = subst (IsNodeIn p.sections None) (sym e) tt
        by_entry (Some d) e =
            let h = home_of f p is o d e in
            let home : d.home ≡ w = own d e in
            let here : Contains (located w) (at_home w d.item) = to_map (at_home w) (items_of w) d.item (subst (λ (v : Walked). Contains (items_of v) d.item) home h.1) in
            absurd (none_there p.sections nodes (located w) are o (sym found) (at_home w d.item) here h.2)

-- an entry at an offset of the unit with a number is one of the unit
pub home_is : (f : List ℕ) (p : Program) → program_of f ≡ Ok p → (o unit : ℕ) → IsUnitAt f o (Some unit) → (w : Walked) → Contains p.walks w → w.number ≡ unit → (d : Located) → item_with_offset p o ≡ Some d → d.home ≡ w
home_is f p is o unit at w wc number d e =
    let h = home_of f p is o d e in
    let same : unit ≡ d.home.number = same_Some unit d.home.number (at p is d.home h.0 d.item h.1 h.2) in
    same_number f p is d.home w h.0 wc (sym same ∙ sym number)

-- where there is no node there is no entry
pub nothing_in : (ss : List Section) (q : Option Located) → IsNodeIn ss None q → q ≡ None
nothing_in ss None h = refl
nothing_in ss (Some d) h = absurd h

-- an entry in a span of a unit is one of the unit
pub home_of_span : (w : Walked) (s : Span) (o : ℕ) (d : Located) → located_in_span w s o ≡ Some d → d.home ≡ w
home_of_span w s o d is = let m = of_option_map (at_home w) (item_in_span w s o) d is in ap (λ (l : Located). l.home) (sym m.2)
