-- The scope paths around the entries of a file, by the place of the lexical parent.
use Rattle.std.specs.Prelude.{◌≡◌, ℕ, ◌+◌, ◌<◌, ◌≤◌, min, nat_eq, List, [], ◌∷◌, length, Contains, Option, Some, None, IsOkAnd, ⊤}
use Rattle.ix_base.specs.declared.limits.TheConstants.{MAX_PATH_STEPS}
use Rattle.indexmap.specs.IndexMap.{IndexMap, get}
use Rattle.index_model.specs.Program.{Program, Located, item_with_offset}
use Rattle.index_model.specs.Parents.{parent_offset}
use Rattle.index_model.specs.Names.{scope_path}
use Rattle.index_model.specs.NodeSeen.{NodeSeen, IsDeclaredIn}
use Rattle.shard_build.specs.Entries.{EntriesOf, ForProgram}
use Rattle.parent_resolve.specs.declared.scope.Scope.{Scope}
use Rattle.parent_resolve.specs.declared.scope.ScopeAround.{ScopeAround}
use Rattle.parent_resolve.specs.Followed.{all_entries}
use Rattle.parent_resolve.specs.declared.scope.PathMember.{PathMember}
use Rattle.parent_resolve.specs.Scopes.{IsScope, greatest}

-- whatever entry of the file stands at the offset
abbrev pub ForMember : EntriesOf → ℕ → (Program → Located → Type 0) → Type 0
ForMember e offset Holds = ForProgram e (λ p. (m : Located) → item_with_offset p offset ≡ Some m → Holds p m)

-- whatever entry has its lexical parent at the offset
abbrev pub ForAround : EntriesOf → ℕ → (Program → Located → Type 0) → Type 0
ForAround e parent Holds = ForProgram e (λ p. (d : Located) → Contains (all_entries p) d → parent_offset d ≡ Some parent → Holds p d)

-- whatever entry has its lexical parent there, or has none
abbrev pub ForEnd : EntriesOf → Option ℕ → (Program → Located → Type 0) → Type 0
ForEnd e parent Holds = ForProgram e (λ p. (d : Located) → Contains (all_entries p) d → parent_offset d ≡ parent → Holds p d)

-- the scope is that of the path around each such entry
abbrev pub IsScopeAround : EntriesOf → ℕ → Scope → Type 0
IsScopeAround e parent s = ForAround e parent (λ p d. IsOkAnd (scope_path p d) (IsScope s))

-- so are all of these
abbrev pub AreScopes : {S : Type 0} → EntriesOf → IndexMap ℕ Scope S → Type 0
AreScopes e known = (parent : ℕ) (s : Scope) → get nat_eq known parent ≡ Some s → IsScopeAround e parent s

-- and each of these, around what is in its parent
abbrev pub AreRecent : EntriesOf → List ScopeAround → Type 0
AreRecent e recent = (s : ScopeAround) → Contains recent s → IsScopeAround e s.parent s.scope

-- the node is that of a declaration that refers to no other entry, and the path around it has a scope
abbrev pub IsPassedOver : EntriesOf → NodeSeen → Type 0
IsPassedOver e n = (around : ScopeAround) × IsDeclaredIn around.parent n × IsScopeAround e around.parent around.scope

-- ---- the members that a path passed

-- the scope behind a member: that of the path around each entry with this lexical parent, or none
abbrev pub IsBehind : EntriesOf → Option ℕ → Scope → Type 0
IsBehind e None s = (s.steps ≡ 0) × (s.length ≡ 0)
IsBehind e (Some parent) s = IsScopeAround e parent s

-- the scope around what is in the member is that behind it and the member itself
abbrev pub IsBefore : EntriesOf → PathMember → Option ℕ → Type 0
IsBefore e x next = (outer s : Scope) → IsBehind e next outer → outer.steps < MAX_PATH_STEPS → s.steps ≡ outer.steps + 1 → s.length ≡ min greatest (outer.length + x.part) → IsScopeAround e x.offset s

-- where the first of these members stands, or where the path goes on
abbrev pub first_offset : List PathMember → Option ℕ → Option ℕ
first_offset [] next = next
first_offset (x ∷ xs) next = Some x.offset

-- each of these members has the next one behind it, and the last one what stands there
abbrev pub AreBefore : EntriesOf → List PathMember → Option ℕ → Type 0
AreBefore e [] next = ⊤
AreBefore e (x ∷ xs) next = IsBefore e x (first_offset xs next) × AreBefore e xs next

-- so they are members of a path, and this is the scope behind the last; all together aren't too many
pub record EndIn (e : EntriesOf) (passed : List PathMember) (outer : Scope) : Type 0 where
  pub next : Option ℕ
  pub before : AreBefore e passed next
  pub behind : IsBehind e next outer
  pub few : length passed + outer.steps ≤ MAX_PATH_STEPS
