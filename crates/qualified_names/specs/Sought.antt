-- The main program among indexed entries (DWARF 5, 3.3.1).
use Rattle.std.specs.Prelude.{◌≡◌, ℕ, Bool, not, ◌&&◌, ◌==◌, List, Option, Some, None, Ok, ⊤}
use Rattle.std.specs.List.{AllZip}
use Rattle.index_model.specs.declared.shard.LinkedEntry.{LinkedEntry}
use Rattle.index_model.specs.declared.shard.Shard.{Shard}
use Rattle.index_model.specs.Attributes.{says_main}
use Rattle.index_model.specs.Faults.{program_of}
use Rattle.index_model.specs.Languages.{language_of}
use Rattle.index_model.specs.Links.{Link}
use Rattle.index_model.specs.MainProgram.{is_named_main}
use Rattle.index_model.specs.Program.{Program}
use Rattle.index_model.specs.Shards.{AreShardsOf}
use Rattle.qualified_names.specs.declared.sought.MainBy.{MainBy}
use Rattle.qualified_names.specs.declared.sought.MainBy.TheVariants.{Said, Named}
use Rattle.qualified_names.specs.Indexed.{IsIndexed}

-- how an entry is told to be main
abbrev pub is_told : MainBy → Link → Bool
is_told Said k = says_main k.entry.item
is_told Named k = is_named_main k

-- the unit has a language other than 0, and the entry is main
abbrev pub is_main_by : Program → MainBy → Link → Bool
is_main_by p sought k = not (language_of p k.entry.home == 0) && is_told sought k

-- whatever link the entry has in the file of these shards
abbrev pub ForCounted : List Shard → LinkedEntry → (Program → Link → Type 0) → Type 0
ForCounted shards x Holds = (f : List ℕ) (p : Program) → program_of f ≡ Ok p → AreShardsOf p shards → (k : Link) → IsIndexed p x k → Holds p k

-- whatever links the entries have
abbrev pub ForAllCounted : List Shard → List LinkedEntry → (Program → List Link → Type 0) → Type 0
ForAllCounted shards xs Holds = (f : List ℕ) (p : Program) → program_of f ≡ Ok p → AreShardsOf p shards → (ks : List Link) → AllZip (IsIndexed p) xs ks → Holds p ks

-- the entry is that of the link, or there is neither
abbrev pub IsFound : Program → Option LinkedEntry → Option Link → Type 0
IsFound p None None = ⊤
IsFound p None (Some k) = ⊥
IsFound p (Some x) None = ⊥
IsFound p (Some x) (Some k) = IsIndexed p x k
