-- What is known of an indexed entry, by what its shard's links say of it.
use Rattle.std.specs.Prelude.{◌≡◌, ℕ, true, List, Contains, Option, Ok}
use Rattle.std.specs.List.{AllZip}
use Rattle.index_model.specs.declared.rules.Class.{Class}
use Rattle.index_model.specs.declared.shard.LinkedEntry.{LinkedEntry}
use Rattle.index_model.specs.Chains.{chain_end}
use Rattle.index_model.specs.Faults.{program_of}
use Rattle.index_model.specs.Links.{Link, link_of, is_link_indexed, indexed_in}
use Rattle.index_model.specs.Parents.{parent_offset}
use Rattle.index_model.specs.Program.{Program}
use Rattle.index_model.specs.Shards.{AreShardsOf, IsLinkedEntryOf}
use Rattle.shard_build.specs.Entries.{EntriesOf}
use Rattle.parent_resolve.specs.Followed.{all_entries}

-- the entry's link is this one
pub record IsIndexed (p : Program) (x : LinkedEntry) (k : Link) : Type 0 where
  pub own : link_of p k.entry ≡ Ok k
  pub there : Contains (all_entries p) k.entry
  pub links : IsLinkedEntryOf p x k
  pub indexed : is_link_indexed k ≡ true

-- whatever the entry's link is
abbrev pub ForAnyLink : LinkedEntry → (Link → Type 0) → Type 0
ForAnyLink x Holds = (p : Program) (k : Link) → IsIndexed p x k → Holds k

-- it has one, in a unit of this class
pub record HasAnyLink (x : LinkedEntry) (class : Class) : Type 0 where
  pub program : Program
  pub link : Link
  pub is : IsIndexed program x link
  pub class_is : class ≡ link.class

-- whatever its link in the file is
abbrev pub ForLink : EntriesOf → LinkedEntry → (Program → Link → Type 0) → Type 0
ForLink e x Holds = (p : Program) → program_of e.image.file ≡ Ok p → AreShardsOf p e.shards → (k : Link) → IsIndexed p x k → Holds p k

-- it has one in the file
pub record HasLink (e : EntriesOf) (x : LinkedEntry) : Type 0 where
  pub program : Program
  pub file : program_of e.image.file ≡ Ok program
  pub shards : AreShardsOf program e.shards
  pub link : Link
  pub is : IsIndexed program x link

-- these entries have links in the file, one by one
pub record HaveLinks (e : EntriesOf) (xs : List LinkedEntry) : Type 0 where
  pub program : Program
  pub file : program_of e.image.file ≡ Ok program
  pub shards : AreShardsOf program e.shards
  pub links : List Link
  pub are : AllZip (IsIndexed program) xs (indexed_in links)

-- whatever links these are the indexed ones of
abbrev pub ForLinksOf : EntriesOf → List LinkedEntry → (Program → List Link → Type 0) → Type 0
ForLinksOf e xs Holds = (p : Program) → program_of e.image.file ≡ Ok p → AreShardsOf p e.shards → (ks : List Link) → AllZip (IsIndexed p) xs (indexed_in ks) → Holds p ks

-- the offset is that of the lexical parent of the last entry of the chain
pub record IsAroundEnd (p : Program) (k : Link) (parent : Option ℕ) : Type 0 where
  pub there : Contains (all_entries p) (chain_end k.entry k.chain)
  pub is : parent ≡ parent_offset (chain_end k.entry k.chain)
