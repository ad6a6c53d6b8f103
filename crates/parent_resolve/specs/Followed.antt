-- An entry whose references are followed, and what is known of it (DWARF 5, 2.13.2, 3.3.8 and 7.32).
use Rattle.std.specs.Prelude.{◌≡◌, ℕ, List, flat_map, Contains, Option, option_map, Result, Ok}
use denote.Ref.{Bor}
use Rattle.index_model.specs.declared.shard.Node.{Node}
use Rattle.index_model.specs.Meaning.{◌>>=◌}
use Rattle.index_model.specs.Faults.{program_of}
use Rattle.index_model.specs.Program.{Program, Located, located}
use Rattle.index_model.specs.Chains.{chain_of, spelled_name}
use Rattle.index_model.specs.ShardParts.{IsNodeOf}
use Rattle.shard_build.specs.Entries.{EntriesOf}

-- the entries of a program
abbrev pub all_entries : Program → List Located
all_entries p = flat_map located p.walks

-- an entry's chain, and the name that the file spells for it
pub record Named : Type 0 where
  pub chain : List Located
  pub spelled : Option (List ℕ)

-- the chain is followed first, and then the signature where the name needs it
unfoldable pub followed_of : Program → Located → Result Named ℕ
followed_of p d = do
  chain ← chain_of p d
  spelled ← spelled_name p d chain
  Ok (record { chain = chain; spelled = spelled })

-- the text is that of the name, or there is neither
abbrev pub IsText : Option (Bor (List ℕ)) → Option (List ℕ) → Type 0
IsText text name = option_map (λ t. t.now) text ≡ name

-- whatever entry of the program the node is that of
abbrev pub ForEntry : EntriesOf → Node → (Program → Located → Type 0) → Type 0
ForEntry e node Holds = (p : Program) → program_of e.image.file ≡ Ok p → (d : Located) → Contains (all_entries p) d → IsNodeOf p.sections node d → Holds p d

-- an entry of the file has the node
pub record HasEntry (e : EntriesOf) (node : Node) : Type 0 where
  pub program : Program
  pub file : program_of e.image.file ≡ Ok program
  pub entry : Located
  pub there : Contains (all_entries program) entry
  pub is : IsNodeOf program.sections node entry
