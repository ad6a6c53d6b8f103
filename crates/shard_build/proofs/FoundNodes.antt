-- The nodes of a shard, by their offsets.
use Rattle.std.proofs.Common.{◌≡◌, ℕ, ◌<◌, ◌≤◌, Bool, true, eqb, List, [], ◌∷◌, get_or, Some, None, sym, ap, subst, ◌∙◌, arith, ⊎_elim}
use Rattle.std.specs.Prelude.{Contains, find, flat_map}
use Rattle.std.specs.List.{AllZip}
use Rattle.std.specs.List.Sorted.{IsNonDecreasingBy}
use Rattle.std.proofs.lemmas.Bool.{eqb-true, eq-eqb, cases_lt}
use Rattle.common_laws.proofs.Members.{contains_here, contains_later, contains_cases, of_filter, to_filter, of_find}
use Rattle.index_model.specs.declared.shard.Node.{Node}
use Rattle.index_model.specs.declared.shard.Shard.{Shard}
use Rattle.index_model.specs.NodeSeen.{NodeSeen}
use Rattle.index_model.specs.Program.{Walked, Located, located}
use Rattle.index_model.specs.Sections.{Section}
use Rattle.index_model.specs.ShardParts.{IsSeenOf, node_facts, is_kept, kept_in}
use Rattle.index_model.specs.Shards.{StandsFor}
use Rattle.index_model.proofs.Pairs.{Pairs, all_pairs, pairs_filter}
use Rattle.index_model.proofs.UnitsApart.{AreApart}
use Rattle.index_model.proofs.Located.{Before, located_before}
use Rattle.shard_build.proofs.OnePlace.{find_none}

node_offset : (n : Node) (d : Located) → n ≡ node_facts d → n.offset ≡ d.item.at
unfolding node_facts
node_offset n d is = ap (λ (x : Node). x.offset) is

abbrev NodesEarlier : NodeSeen → NodeSeen → Type 0
NodesEarlier m n = m.facts.offset < n.facts.offset

abbrev pub has_offset : ℕ → NodeSeen → Bool
has_offset o n = eqb n.facts.offset o

abbrev pub kept : Located → Bool
kept d = is_kept d.home d.item

module _ (ss : List Section) where
  -- the entry of a node
  entry_of : (nodes : List NodeSeen) (ds : List Located) → AllZip (IsSeenOf ss) nodes ds → (n : NodeSeen) → Contains nodes n → (d : Located) × Contains ds d × IsSeenOf ss n d
  entry_of [] [] z n c = absurd (omega (arith, c.1))
  entry_of [] (d ∷ ds) z n c = absurd z
  entry_of (m ∷ ms) [] z n c = absurd z
  entry_of (m ∷ ms) (d ∷ ds) z n c = ⊎_elim
      (λ (same : m ≡ n). (d, contains_here d ds, subst (λ (x : NodeSeen). IsSeenOf ss x d) same z.0))
      (λ (l : Contains ms n). let r = entry_of ms ds z.1 n l in (r.0, contains_later d ds r.0 r.1, r.2))
      (contains_cases m ms n c)

  -- the node of an entry
  node_of : (nodes : List NodeSeen) (ds : List Located) → AllZip (IsSeenOf ss) nodes ds → (d : Located) → Contains ds d → (n : NodeSeen) × Contains nodes n × IsSeenOf ss n d
  node_of [] [] z d c = absurd (omega (arith, c.1))
  node_of [] (e ∷ es) z d c = absurd z
  node_of (m ∷ ms) [] z d c = absurd z
  node_of (m ∷ ms) (e ∷ es) z d c = ⊎_elim
      (λ (same : e ≡ d). (m, contains_here m ms, subst (IsSeenOf ss m) same z.0))
      (λ (l : Contains es d). let r = node_of ms es z.1 d l in (r.0, contains_later m ms r.0 r.1, r.2))
      (contains_cases e es d c)

  nodes_rise : (nodes : List NodeSeen) (ds : List Located) → AllZip (IsSeenOf ss) nodes ds → Pairs Before ds → Pairs NodesEarlier nodes
  nodes_rise [] [] z h = tt
  nodes_rise [] (d ∷ ds) z h = absurd z
  nodes_rise (m ∷ ms) [] z h = absurd z
  nodes_rise (m ∷ ms) (d ∷ ds) z h = (
    λ n c. let r = entry_of ms ds z.1 n c in let lt = h.0 r.0 r.1 in omega (arith, lt, node_offset m.facts d z.0.facts, node_offset n.facts r.0 r.2.facts),
    nodes_rise ms ds z.1 h.1,
  )

  module _ (nodes : List NodeSeen) (ds : List Located) (are : AllZip (IsSeenOf ss) nodes ds) where
    -- the offsets of the nodes rise as those of their entries do
    pub offsets_rise_by : Pairs Before ds → IsNonDecreasingBy (λ n. n.facts.offset) nodes
    offsets_rise_by before i j d le within =
        let pairs = nodes_rise nodes ds are before in
        ⊎_elim
        (λ (lt : i < j). let r = all_pairs NodesEarlier nodes pairs i j d lt within in omega (arith, r))
        (λ (ge : j ≤ i). let same : i ≡ j = omega (arith, le, ge) in subst (λ (k : ℕ). (get_or nodes i d).facts.offset ≤ (get_or nodes k d).facts.offset) same (omega arith))
        (cases_lt i j)

    module _ (o : ℕ) where
      -- the node at an offset is that of an entry there
      pub entry_there : (n : NodeSeen) → find (has_offset o) nodes ≡ Some n → (d : Located) × Contains ds d × IsSeenOf ss n d × (d.item.at ≡ o)
      entry_there n found =
          let m = of_find (has_offset o) nodes n found in
          let e = entry_of nodes ds are n m.0 in
          (e.0, e.1, e.2, sym (node_offset n.facts e.0 e.2.facts) ∙ eqb-true n.facts.offset o m.1)

      -- without a node at its offset there is no entry
      pub none_there : find (has_offset o) nodes ≡ None → (d : Located) → Contains ds d → d.item.at ≡ o → ⊥
      none_there none d c place =
          let n = node_of nodes ds are d c in
          find_none (has_offset o) nodes none n.0 n.1 (eq-eqb (n.0).facts.offset o (node_offset (n.0).facts d n.2.facts ∙ place))

  module _ (s : Shard) (run : List Walked) (a : AreApart ss run) (stands : StandsFor ss s run) where
    -- the offsets of a shard's nodes rise
    pub offsets_rise : IsNonDecreasingBy (λ n. n.facts.offset) s.nodes
    offsets_rise = offsets_rise_by s.nodes (kept_in run) stands.nodes (pairs_filter Before kept (flat_map located run) (located_before ss run a))

    -- the node at an offset is that of an entry there
    pub kept_there : (o : ℕ) (n : NodeSeen) → find (has_offset o) s.nodes ≡ Some n → (d : Located) × Contains (flat_map located run) d × IsSeenOf ss n d × (d.item.at ≡ o)
    kept_there o n found =
        let e = entry_there s.nodes (kept_in run) stands.nodes o n found in
        (e.0, (of_filter kept (flat_map located run) e.0 e.1).0, e.2, e.3)

    -- without a node at its offset an entry isn't kept
    pub not_kept : (o : ℕ) → find (has_offset o) s.nodes ≡ None → (d : Located) → Contains (flat_map located run) d → d.item.at ≡ o → kept d ≡ true → ⊥
    not_kept o none d c place on = none_there s.nodes (kept_in run) stands.nodes o none d (to_filter kept (flat_map located run) d c on) place
