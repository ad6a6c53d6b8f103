-- What is known of a chain whose entries were followed (DWARF 5, 2.13.2 and 3.3.8.1).
use Rattle.std.specs.Prelude.{◌≡◌, ℕ, List, [], ◌∷◌, ◌++◌, filter_map, Contains, Option, Some, None, option_map, Ok, ⊤}
use Rattle.index_model.specs.declared.shard.Next.{Next}
use Rattle.index_model.specs.declared.shard.Node.{Node}
use Rattle.index_model.specs.Attributes.{next_reference}
use Rattle.index_model.specs.Faults.{program_of}
use Rattle.index_model.specs.Parents.{parent_offset}
use Rattle.index_model.specs.Program.{Program, Located}
use Rattle.index_model.specs.Chains.{first, chain_end, is_external, linkage_name_of}
use Rattle.index_model.specs.ShardParts.{IsNodeOf, as_next}
use Rattle.index_model.specs.Strings.{own_name}
use Rattle.shard_build.specs.Entries.{EntriesOf}
use Rattle.parent_resolve.specs.declared.chain.Chain.{Chain}
use Rattle.parent_resolve.specs.Followed.{all_entries}

-- the name on a chain: the first own name
abbrev pub name_on : Program → List Located → Option (List ℕ)
name_on p chain = first (filter_map (own_name p.sections) chain)

-- what is kept of the chain
pub record IsChain (p : Program) (d : Located) (c : Chain) (chain : List Located) : Type 0 where
  pub unit : c.unit ≡ (chain_end d chain).home.number
  pub next : c.next ≡ option_map as_next (next_reference (chain_end d chain).item)
  pub around : c.around ≡ parent_offset (chain_end d chain)
  pub there : Contains (all_entries p) (chain_end d chain)
  pub external : c.external ≡ is_external chain
  pub name : option_map (λ t. t.now) c.name ≡ name_on p chain
  pub linkage : option_map (λ t. t.now) c.linkage ≡ linkage_name_of p chain

-- what begins a chain: what is kept of an entry alone
abbrev pub BeginsWith : Node → Chain → Type 0
BeginsWith node c = (p : Program) (d : Located) → IsNodeOf p.sections node d → Contains (all_entries p) d → IsChain p d c (d ∷ [])

-- what is kept of a chain with one more entry
abbrev pub GoesOnWith : Chain → Node → Chain → Type 0
GoesOnWith old node new = (p : Program) (d e : Located) (chain : List Located) → IsChain p d old chain → IsNodeOf p.sections node e → Contains (all_entries p) e → IsChain p d new (chain ++ e ∷ [])

-- whatever entry of the unit with this number has this reference
abbrev pub ForReferrer : EntriesOf → ℕ → Option Next → (Program → Located → Type 0) → Type 0
ForReferrer e unit next Holds = (p : Program) → program_of e.image.file ≡ Ok p → (d : Located) → Contains (all_entries p) d → unit ≡ d.home.number → next ≡ option_map as_next (next_reference d.item) → Holds p d

-- the node is that of the entry which the next reference names, or there is none
abbrev pub IsNext : Program → Option Node → Option Located → Type 0
IsNext p None None = ⊤
IsNext p None (Some e) = ⊥
IsNext p (Some n) None = ⊥
IsNext p (Some n) (Some e) = IsNodeOf p.sections n e × Contains (all_entries p) e
