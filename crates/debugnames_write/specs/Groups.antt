-- Entries by their names.
use Rattle.std.specs.Prelude.{◌≡◌, ℕ, List, map, filter, bytes_eq, All}
use Rattle.index_model.specs.Hashes.{name_hash}
use Rattle.index_model.specs.NameIndex.{Indexed, names_in}
use Rattle.debugnames_write.specs.declared.groups.NameEntries.{NameEntries}
use Rattle.debugnames_write.specs.Seen.{items_seen, nameless}

-- the entries with a name, in their order
abbrev pub entries_named : List ℕ → List Indexed → List Indexed
entries_named name es = filter (λ e. bytes_eq e.name name) es

-- the same without the name
abbrev pub entries_of : List Indexed → List ℕ → List Indexed
entries_of es name = map nameless (entries_named name es)

-- the group has all entries with its name
abbrev pub IsGroupOf : List Indexed → NameEntries → Type 0
IsGroupOf es g = items_seen g.items.now ≡ entries_of es g.name.now

-- the names of groups
abbrev pub group_names : List NameEntries → List (List ℕ)
group_names gs = map (λ g. g.name.now) gs

-- the hashes of their names
abbrev pub group_hashes : List NameEntries → List ℕ
group_hashes gs = map (λ g. name_hash g.name.now) gs

-- the groups of all names, in byte order
pub record AreGroupsOf (es : List Indexed) (gs : List NameEntries) : Type 0 where
  pub names : group_names gs ≡ names_in es
  pub each : All (IsGroupOf es) gs
