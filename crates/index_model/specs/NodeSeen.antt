-- Nodes as a list of them is seen: with the bytes of their texts.
use Rattle.std.specs.Prelude.{◌≡◌, ℕ, true, List, [], ◌∷◌, ◌++◌, Option, Some, None, option_map}
use Rattle.index_model.specs.declared.shard.Node.{Node}

-- a node, with its texts apart
pub record NodeSeen : Type 0 where
  pub facts : Node
  pub name : Option (List ℕ)
  pub linkage : Option (List ℕ)

-- the node of a declaration with this lexical parent, which refers to no other entry
pub record IsDeclaredIn (parent : ℕ) (n : NodeSeen) : Type 0 where
  pub declaration : n.facts.declaration ≡ true
  pub parent_ : n.facts.parent ≡ Some parent
  pub next : n.facts.next ≡ None
  pub signature : n.facts.signature ≡ None

-- nodes that are still added to, and the strings of the file's `.debug_str`
pub record NodesGrown : Type 0 where
  pub strings : List ℕ
  pub nodes : List NodeSeen

-- with one more node
abbrev pub with_node : NodesGrown → NodeSeen → NodesGrown
with_node g n = record g { nodes = g.nodes ++ n ∷ [] }

-- a node with the bytes of its texts
abbrev pub node_seen : Node → NodeSeen
node_seen n = record {
  facts = record n { name = None; linkage = None };
  name = option_map (λ t. t.now) n.name;
  linkage = option_map (λ t. t.now) n.linkage;
}
