-- How far a scope path goes, and how much it puts before a C++ name (DWARF 5, 2.13.2).
use Rattle.std.specs.Prelude.{◌≡◌, ℕ, ◌+◌, Bool, ◌&&◌, ◌||◌, ◌==◌, min, if◌then◌else◌, List, [], ◌∷◌, length, Contains, Option, Some, None, option_map, Result, Ok}
use Rattle.index_model.specs.Meaning.{◌>>=◌}
use Rattle.index_model.specs.Program.{Program, Located}
use Rattle.index_model.specs.Parents.{parent_offset}
use Rattle.index_model.specs.Chains.{chain_end, name_with}
use Rattle.index_model.specs.Names.{Member, component}
use Rattle.index_model.specs.Tags.{namespace, is_record_tag, enumeration}
use Rattle.parent_resolve.specs.declared.scope.Scope.{Scope}
use Rattle.parent_resolve.specs.declared.members.Step.{Step}
use Rattle.parent_resolve.specs.Followed.{all_entries, followed_of}

-- the length of a component and of the `::` behind it
abbrev pub part_length : Option (List ℕ) → ℕ
part_length (Some name) = length name + 2
part_length None = 0

-- the length of what a path puts before a name
abbrev pub prefix_length : List Member → ℕ
prefix_length [] = 0
prefix_length (m ∷ ms) = part_length (component m) + prefix_length ms

-- the greatest number that a scope's length can be
abbrev pub greatest : ℕ
greatest = 18446744073709551615

-- the number of the members of a path, and the length of what they put before a name, or the greatest number where that is greater
pub record IsScope (s : Scope) (path : List Member) : Type 0 where
  pub steps : s.steps ≡ length path
  pub length : s.length ≡ min greatest (prefix_length path)

-- whether an entry with this tag gives its name to the names inside it; an enumeration does where it is scoped
abbrev pub names_its_members : ℕ → Bool → Bool
names_its_members tag scoped = tag == namespace || is_record_tag tag || (tag == enumeration && scoped)

-- ---- one step

-- a member of a path, and the end of its chain, around which the path goes on; a root has nothing around it
pub record Passed : Type 0 where
  pub member : Member
  pub end : Option Located

-- the root of a unit as a member
abbrev pub root_passed : Located → Passed
root_passed m = record { member = record { entry = m; name = None }; end = None }

-- what the path passes at an entry that isn't a root
unfoldable pub followed_at : Program → Located → Result Passed ℕ
followed_at p m = do
  n ← followed_of p m
  Ok (record { member = record { entry = m; name = name_with m n.spelled }; end = Some (chain_end m n.chain) })

-- what the path passes at an entry
unfoldable pub passed_at : Program → Located → Result Passed ℕ
passed_at p m =
    let others = followed_at p m in
    if m.item.depth == 0 then Ok (root_passed m) else others

-- the entry stands in the program, and its lexical parent at the offset; or there is none
abbrev pub IsAround : Program → Option ℕ → Option Located → Type 0
IsAround p around None = around ≡ None
IsAround p around (Some e) = Contains (all_entries p) e × (around ≡ parent_offset e)

-- what the member gives to names, and where the path goes on
pub record IsStep (p : Program) (s : Step) (x : Passed) : Type 0 where
  pub component : option_map (λ t. t.now) s.component ≡ component x.member
  pub around : IsAround p s.around x.end
