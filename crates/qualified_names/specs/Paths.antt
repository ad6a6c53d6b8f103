-- What is known of the scope paths around entries.
use Rattle.std.specs.Prelude.{◌≡◌, ℕ, List, ◌++◌, Contains, Option, IsOkAnd}
use Rattle.index_model.specs.Names.{Member, scope_path, scoped_name}
use Rattle.index_model.specs.Parents.{parent_offset}
use Rattle.index_model.specs.Program.{Located}
use Rattle.shard_build.specs.Entries.{EntriesOf, ForProgram}
use Rattle.parent_resolve.specs.Followed.{all_entries}

-- these bytes stand before each name behind the path
abbrev pub IsFront : List ℕ → List Member → Type 0
IsFront front path = (name : List ℕ) → scoped_name path name ≡ front ++ name

-- they stand before the name of whatever entry of the file has this lexical parent
abbrev pub IsFrontAround : EntriesOf → Option ℕ → List ℕ → Type 0
IsFrontAround e parent front = ForProgram e (λ p. (d : Located) → Contains (all_entries p) d → parent_offset d ≡ parent → IsOkAnd (scope_path p d) (IsFront front))
