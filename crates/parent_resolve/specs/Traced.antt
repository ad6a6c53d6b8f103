-- What counts of an entry whose references were followed (DWARF 5, 2.13.2, 3.3.8 and 7.32).
use Rattle.std.specs.Prelude.{◌≡◌, Contains, option_map, IsOkAnd}
use Rattle.index_model.specs.declared.shard.Node.{Node}
use Rattle.index_model.specs.Program.{Program, Located}
use Rattle.index_model.specs.Parents.{parent_offset}
use Rattle.index_model.specs.Chains.{chain_end, is_external, linkage_name_of}
use Rattle.index_model.specs.ShardParts.{IsNodeOf}
use Rattle.parent_resolve.specs.declared.traced.Traced.{Traced}
use Rattle.parent_resolve.specs.Followed.{Named, all_entries, followed_of}

-- what is known of its chain and its name
pub record IsTraced (p : Program) (d : Located) (t : Traced) (n : Named) : Type 0 where
  pub there : Contains (all_entries p) (chain_end d n.chain)
  pub around : t.around ≡ parent_offset (chain_end d n.chain)
  pub external : t.external ≡ is_external n.chain
  pub spelled : option_map (λ t. t.now) t.spelled ≡ n.spelled
  pub linkage : option_map (λ t. t.now) t.linkage ≡ linkage_name_of p n.chain

-- whatever entry of a program the node is that of: following it gives this
abbrev pub IsTracedAlone : Node → Traced → Type 0
IsTracedAlone node t = (p : Program) (d : Located) → Contains (all_entries p) d → IsNodeOf p.sections node d → IsOkAnd (followed_of p d) (IsTraced p d t)
