-- When a Shard stands for the walks of a run of units, and when what links say of it is right.
use Rattle.std.specs.Prelude.{◌≡◌, ℕ, List, [], ◌∷◌, ◌++◌, flat_map, map, length, Option, Some, None, option_map, ⊤}
use Rattle.std.specs.List.{AllZip}
use Rattle.index_model.specs.declared.shard.Shard.{Shard}
use Rattle.index_model.specs.declared.shard.LinkedEntry.{LinkedEntry}
use Rattle.index_model.specs.declared.shard.Linked.{Linked}
use Rattle.index_model.specs.Sections.{Section}
use Rattle.index_model.specs.Program.{Walked, Program, scope_around}
use Rattle.index_model.specs.Attributes.{says_main}
use Rattle.index_model.specs.Chains.{chain_end, linkage_name_of}
use Rattle.index_model.specs.Entries.{is_link_static}
use Rattle.index_model.specs.Links.{Link, indexed_in, name_in, qualified_of}
use Rattle.index_model.specs.ShardParts.{root_facts, kept_in, IsSeenOf, spans_of, imports_in}

-- ---- walks

-- n is the number of the first unit; of no units nothing is said
abbrev pub first_number : List Walked → ℕ → Type 0
first_number [] n = ⊤
first_number (w ∷ ws) n = n ≡ w.number

-- the Shard stands for these walks of a file with these sections
pub record StandsFor (ss : List Section) (s : Shard) (run : List Walked) : Type 0 where
  pub first : first_number run s.first
  pub roots : s.roots ≡ map root_facts run
  pub nodes : AllZip (IsSeenOf ss) s.nodes (kept_in run)
  pub spans : s.spans ≡ flat_map spans_of run
  pub imports : s.imports ≡ flat_map (imports_in ss) run

-- these shards stand for consecutive runs that make up all units of the program
pub record AreShardsOf (p : Program) (shards : List Shard) : Type 0 where
  pub runs : List (List Walked)
  pub all : flat_map (λ run. run) runs ≡ p.walks
  pub stand : AllZip (StandsFor p.sections) shards runs

-- the walks are those of consecutive units of the program
pub record IsRunOf (p : Program) (run : List Walked) : Type 0 where
  pub before : List Walked
  pub after : List Walked
  pub is : p.walks ≡ before ++ (run ++ after)

-- ---- links

-- the length of a name
abbrev pub length_of : Option (List ℕ) → ℕ
length_of (Some name) = length name
length_of None = 0

-- what a link says of an indexed entry
pub record IsLinkedEntryOf (p : Program) (e : LinkedEntry) (k : Link) : Type 0 where
  pub unit : e.unit ≡ k.entry.home.number
  pub tag : e.tag ≡ k.entry.item.tag
  pub local : e.local ≡ is_link_static k
  pub main : e.main ≡ says_main k.entry.item
  pub offset : e.offset ≡ k.entry.item.at
  pub around : e.around ≡ option_map (λ m. m.item.at) (scope_around (chain_end k.entry k.chain))
  pub name : name_in k ≡ Some e.name.now
  pub linkage : option_map (λ t. t.now) e.linkage ≡ linkage_name_of p k.chain
  pub length : e.length ≡ length_of (qualified_of k)

-- the Linked is what the links of a run say of its indexed entries
abbrev pub IsLinked : Program → Linked → List Link → Type 0
IsLinked p linked ks = AllZip (IsLinkedEntryOf p) (linked.entries) (indexed_in ks)
