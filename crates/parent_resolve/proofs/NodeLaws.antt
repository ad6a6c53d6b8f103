-- The nodes of a shard, and the entries that they are of.
use Rattle.std.proofs.Common.{◌≡◌, ℕ, zero, suc, ◌<◌, ◌≤◌, List, [], ◌∷◌, length, get_or, Option, Some, None, option_map, refl, sym, ap, subst, ◌∙◌, arith, ⊎_elim}
use Rattle.std.specs.Prelude.{Contains}
use Rattle.std.specs.List.{AllZip}
use Rattle.std.specs.List.Sorted.{IsNonDecreasingBy}
use Rattle.std.proofs.lemmas.Bool.{cases_lt}
use Rattle.common_laws.proofs.Members.{contains_here, contains_later, contains_cases}
use Rattle.index_model.specs.declared.shard.Node.{Node}
use Rattle.index_model.specs.NodeSeen.{NodeSeen, node_seen}
use Rattle.index_model.specs.Program.{Walked, Located, items_of, scope_around}
use Rattle.index_model.specs.Sections.{Section}
use Rattle.index_model.specs.ShardParts.{IsNodeOf, IsSeenOf, node_facts}
use Rattle.index_model.specs.Walk.{Item, parent_of}
use Rattle.index_model.proofs.Pairs.{Pairs, all_pairs}
use Rattle.index_model.proofs.Located.{Before, at_home}

pub seen_parts : (ss : List Section) (n : NodeSeen) (d : Located) → IsSeenOf ss n d → (n.facts.offset ≡ d.item.at) × (n.facts.parent ≡ option_map (λ e. e.item.at) (scope_around d)) × (n.facts.tag ≡ d.item.tag)
unfolding node_facts
seen_parts ss n d h = (ap (λ (x : Node). x.offset) h.facts, ap (λ (x : Node). x.parent) h.facts, ap (λ (x : Node). x.tag) h.facts)

pub node_parts : (ss : List Section) (n : Node) (d : Located) → IsNodeOf ss n d → (n.offset ≡ d.item.at) × (n.parent ≡ option_map (λ e. e.item.at) (scope_around d)) × (n.tag ≡ d.item.tag)
node_parts ss n d h = seen_parts ss (node_seen n) d h

abbrev pub offset_in : Option Item → Option ℕ
offset_in o = option_map (λ e. e.at) o

scope_offset : (w : Walked) (o : Option Item) → option_map (λ (e : Located). e.item.at) (option_map (at_home w) o) ≡ offset_in o
scope_offset w None = refl
scope_offset w (Some e) = refl

pub node_unit : (ss : List Section) (n : Node) (d : Located) → IsNodeOf ss n d → n.unit ≡ d.home.number
unfolding node_facts
node_unit ss n d h = ap (λ (x : Node). x.unit) h.facts

-- the parent that a node names
pub seen_parent : (ss : List Section) (n : NodeSeen) (d : Located) → IsSeenOf ss n d → n.facts.parent ≡ offset_in (parent_of (items_of d.home) d.item)
seen_parent ss n d h = (seen_parts ss n d h).1 ∙ scope_offset d.home (parent_of (items_of d.home) d.item)

pub node_parent : (ss : List Section) (n : Node) (d : Located) → IsNodeOf ss n d → n.parent ≡ offset_in (parent_of (items_of d.home) d.item)
node_parent ss n d h = seen_parent ss (node_seen n) d h

abbrev pub NodesBelow : NodeSeen → NodeSeen → Type 0
NodesBelow m n = m.facts.offset < n.facts.offset

module _ (ss : List Section) where
  -- each node is that of an entry
  pub of_node : (ns : List NodeSeen) (ds : List Located) → AllZip (IsSeenOf ss) ns ds → (k : ℕ) (n : NodeSeen) → k < length ns → (d : Located) × Contains ds d × IsSeenOf ss (get_or ns k n) d
  of_node [] [] z k n lt = absurd (omega arith)
  of_node [] (d ∷ ds) z k n lt = absurd z
  of_node (m ∷ ms) [] z k n lt = absurd z
  of_node (m ∷ ms) (d ∷ ds) z zero n lt = (d, contains_here d ds, z.0)
  of_node (m ∷ ms) (d ∷ ds) z (suc k) n lt = let r = of_node ms ds z.1 k n (omega (arith, lt)) in (r.0, contains_later d ds r.0 r.1, r.2)

  -- each entry has its node
  pub to_node : (ns : List NodeSeen) (ds : List Located) → AllZip (IsSeenOf ss) ns ds → (d : Located) → Contains ds d → (k : ℕ) × (k < length ns) × ((n : NodeSeen) → IsSeenOf ss (get_or ns k n) d)
  to_node [] [] z d c = absurd (omega (arith, c.1))
  to_node [] (e ∷ ds) z d c = absurd z
  to_node (m ∷ ms) [] z d c = absurd z
  to_node (m ∷ ms) (e ∷ ds) z d c = ⊎_elim
      (λ (same : e ≡ d). (0, omega arith, λ n. subst (IsSeenOf ss m) same z.0))
      (λ (l : Contains ds d). let r = to_node ms ds z.1 d l in (suc r.0, omega (arith, r.1), r.2))
      (contains_cases e ds d c)

  node_of : (ns : List NodeSeen) (ds : List Located) → AllZip (IsSeenOf ss) ns ds → (n : NodeSeen) → Contains ns n → (d : Located) × Contains ds d × (n.facts.offset ≡ d.item.at)
  node_of [] [] z n c = absurd (omega (arith, c.1))
  node_of [] (d ∷ ds) z n c = absurd z
  node_of (m ∷ ms) [] z n c = absurd z
  node_of (m ∷ ms) (d ∷ ds) z n c = ⊎_elim
      (λ (same : m ≡ n). (d, contains_here d ds, ap (λ (x : NodeSeen). x.facts.offset) (sym same) ∙ (seen_parts ss m d z.0).0))
      (λ (l : Contains ms n). let r = node_of ms ds z.1 n l in (r.0, contains_later d ds r.0 r.1, r.2))
      (contains_cases m ms n c)

  pub nodes_below : (ns : List NodeSeen) (ds : List Located) → AllZip (IsSeenOf ss) ns ds → Pairs Before ds → Pairs NodesBelow ns
  nodes_below [] [] z h = tt
  nodes_below [] (d ∷ ds) z h = absurd z
  nodes_below (m ∷ ms) [] z h = absurd z
  nodes_below (m ∷ ms) (d ∷ ds) z h = (
    λ n c. let r = node_of ms ds z.1 n c in let lt = h.0 r.0 r.1 in omega (arith, lt, r.2, (seen_parts ss m d z.0).0),
    nodes_below ms ds z.1 h.1,
  )

pub nodes_rise : (ns : List NodeSeen) → Pairs NodesBelow ns → IsNonDecreasingBy (λ n. n.facts.offset) ns
nodes_rise ns pairs i j n le within = ⊎_elim
    (λ (lt : i < j). let r = all_pairs NodesBelow ns pairs i j n lt within in omega (arith, r))
    (λ (ge : j ≤ i). let same : i ≡ j = omega (arith, le, ge) in subst (λ (k : ℕ). (get_or ns i n).facts.offset ≤ (get_or ns k n).facts.offset) same (omega arith))
    (cases_lt i j)
