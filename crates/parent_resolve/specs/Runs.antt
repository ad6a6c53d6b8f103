-- The links of a shard's run, by the nodes of the shard.
use Rattle.std.specs.Prelude.{◌≡◌, ℕ, Bool, ◌&&◌, List, [], ◌++◌, filter, Contains, slice_get, unwrap_or, Option, option_to_list, Result, Ok}
use Rattle.std.specs.List.{AllZip}
use Rattle.ix_base.specs.declared.fault.Fault.{Fault}
use Rattle.file_image.specs.Images.{Image}
use Rattle.index_model.specs.declared.shard.LinkedEntry.{LinkedEntry}
use Rattle.index_model.specs.declared.shard.Shard.{Shard}
use Rattle.index_model.specs.declared.shard.Node.{Node}
use Rattle.index_model.specs.Meaning.{at_place, each}
use Rattle.index_model.specs.Program.{Walked, Program, Located, items_of}
use Rattle.index_model.specs.Languages.{class_of_unit}
use Rattle.index_model.specs.Rules.{is_in_table, is_visited, is_ada}
use Rattle.index_model.specs.Links.{Link, link_of, links_in, indexed_in}
use Rattle.index_model.specs.Faults.{program_of}
use Rattle.index_model.specs.ShardParts.{kept_in, IsNodeOf}
use Rattle.index_model.specs.Shards.{AreShardsOf, IsLinkedEntryOf, IsRunOf, StandsFor}
use Rattle.shard_build.specs.Entries.{EntriesOf}

-- Whatever the program of the file and the runs of its shards are: what holds of what the references of run k give.
abbrev pub ForRun : Image → List Shard → ℕ → (Program → Result (List Link) Fault → Type 0) → Type 0
ForRun image shards k Holds = (p : Program) → program_of image.file ≡ Ok p → (h : AreShardsOf p shards) → Holds p (links_in p (unwrap_or (slice_get h.runs k) []))

-- whether the references of an entry are followed
abbrev pub is_followed : Program → Located → Bool
is_followed p d = is_in_table d.item.tag && is_visited (is_ada (class_of_unit p d.home)) (items_of d.home) d.item

-- what the references of these entries give, of those that are followed
abbrev pub links_at : Program → List Located → Result (List Link) Fault
links_at p ds = each (λ d. at_place d.item.at (link_of p d)) (filter (is_followed p) ds)

-- these entries are what these links say of the indexed ones
abbrev pub AreLinksOf : Program → List LinkedEntry → List Link → Type 0
AreLinksOf p es ks = AllZip (IsLinkedEntryOf p) es (indexed_in ks)

-- these are the links of one node at most, and this is what they say of an indexed entry
abbrev pub IsLinkedNode : Program → Option LinkedEntry → List Link → Type 0
IsLinkedNode p e ks = AllZip (IsLinkedEntryOf p) (option_to_list e) (indexed_in ks)

-- behind these entries come those of these links
abbrev pub AddsLinks : Program → List LinkedEntry → List LinkedEntry → List Link → Type 0
AddsLinks p old new ks = (ls : List Link) → AreLinksOf p old ls → AreLinksOf p new (ls ++ ks)

-- Whatever run of the file's units the shard stands for: what holds of the run.
abbrev pub ForStanding : EntriesOf → Shard → (Program → List Walked → Type 0) → Type 0
ForStanding e shard Holds = (p : Program) (run : List Walked) → program_of e.image.file ≡ Ok p → AreShardsOf p e.shards → IsRunOf p run → StandsFor p.sections shard run → Holds p run

-- Whatever run of the file's units the shard stands for: what holds of the entry whose node it is.
abbrev pub ForKept : EntriesOf → Shard → Node → (Program → Located → Type 0) → Type 0
ForKept e shard node Holds = (p : Program) (run : List Walked) → program_of e.image.file ≡ Ok p → AreShardsOf p e.shards → IsRunOf p run → StandsFor p.sections shard run → (d : Located) → Contains (kept_in run) d → IsNodeOf p.sections node d → Holds p d

-- the shard stands for a run of the file's units
pub record HasRun (e : EntriesOf) (shard : Shard) : Type 0 where
  pub program : Program
  pub file : program_of e.image.file ≡ Ok program
  pub run : List Walked
  pub part : IsRunOf program run
  pub stands : StandsFor program.sections shard run
