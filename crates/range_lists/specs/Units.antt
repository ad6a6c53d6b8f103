-- The ranges of a unit, by the shards and links of its file.
use Rattle.std.specs.Prelude.{◌≡◌, ℕ, ◌==◌, List, [], ◌∷◌, filter, map, slice_get, Contains, Option, Some, None, option_and_then, Result, Ok}
use Rattle.std.specs.List.{AllZip}
use Rattle.ix_base.specs.declared.fault.Fault.{Fault}
use Rattle.file_image.specs.Images.{Image}
use Rattle.index_model.specs.declared.range.Range.{Range}
use Rattle.index_model.specs.declared.shard.Raw.{Raw}
use Rattle.index_model.specs.declared.shard.Node.{Node}
use Rattle.index_model.specs.declared.shard.Shard.{Shard}
use Rattle.index_model.specs.declared.shard.Linked.{Linked}
use Rattle.index_model.specs.Attributes.{low_pc, as_address}
use Rattle.index_model.specs.NodeSeen.{NodeSeen}
use Rattle.index_model.specs.Program.{Walked, Program, root_of}
use Rattle.index_model.specs.Links.{Link, links_in}
use Rattle.index_model.specs.Ranges.{ranges_of}
use Rattle.index_model.specs.Faults.{program_of, links_of}
use Rattle.index_model.specs.ShardParts.{root_facts}
use Rattle.index_model.specs.Shards.{AreShardsOf, IsLinked}
use Rattle.index_model.specs.ShardLanguages.{root_in, NodesRise}
use Rattle.range_lists.specs.Homes.{as_value}
use Rattle.range_lists.specs.Nodes.{all_node_ranges, nodes_with_ranges, EntriesRise}

-- the Linked is what the references of a run give
pub record IsLinkedRun (p : Program) (linked : Linked) (run : List Walked) : Type 0 where
  pub links : List Link
  pub given : links_in p run ≡ Ok links
  pub is : IsLinked p linked links

-- these are what the references of the runs of the shards give, one for each shard
abbrev pub AreLinkedOf : (p : Program) (shards : List Shard) → AreShardsOf p shards → List Linked → Type 0
AreLinkedOf p shards h linked = AllZip (IsLinkedRun p) linked h.runs

-- Whatever file the image is of, whose shards and links these are: what holds of the ranges of its unit with the number.
abbrev pub ForUnit : Image → List Shard → List Linked → ℕ → (Result (List Range) Fault → Type 0) → Type 0
ForUnit image shards linked unit Holds = (p : Program) (ks : List Link) → program_of image.file ≡ Ok p → links_of p ≡ Ok ks →
    (h : AreShardsOf p shards) → AreLinkedOf p shards h linked →
    (w : Walked) → Contains p.walks w → w.number ≡ unit → Holds (ranges_of p ks w)

-- ---- one shard

-- nodes without their texts
abbrev pub facts_in : List NodeSeen → List Node
facts_in nodes = map (λ n. n.facts) nodes

-- the nodes of a unit
abbrev pub unit_nodes : ℕ → List Node → List Node
unit_nodes unit nodes = filter (λ n. n.unit == unit) nodes

-- the low_pc of the first of these nodes, if it has one
abbrev pub first_low : List Node → Option Raw
first_low [] = None
first_low (n ∷ nodes) = n.low

-- what the shard and its links keep of a unit
pub record Keeps (image : Image) (shard : Shard) (linked : Linked) (unit : ℕ) (w : Walked) : Type 0 where
  pub header : slice_get image.units unit ≡ Some w.unit
  pub root : root_in unit shard ≡ Some (root_facts w)
  pub low : option_and_then low_pc (root_of w) ≡ option_and_then (λ r. as_address (as_value r)) (first_low (unit_nodes unit (facts_in shard.nodes)))
  pub nodes : NodesRise shard
  pub entries : EntriesRise linked.entries

-- Whatever walk they keep: what holds of its ranges by its nodes.
abbrev pub ForWalk : Image → Shard → Linked → ℕ → (Result (List Range) Fault → Type 0) → Type 0
ForWalk image shard linked unit Holds = (w : Walked) → Keeps image shard linked unit w → Holds (all_node_ranges image.sections w (nodes_with_ranges linked.entries (unit_nodes unit (facts_in shard.nodes))))
