-- Names with their vectors.
use Rattle.std.specs.Prelude.{◌≡◌, ℕ, ◌≤◌, Bool, nat_lt, List, length, map, filter, All, slice_range}
use Rattle.index_model.specs.declared.entry.Entry.{Entry}
use Rattle.index_model.specs.Answers.{is_named}
use Rattle.index_model.specs.GdbIndex.{index_names}
use Rattle.gdbindex_write.specs.declared.symbols.Symbol.{Symbol}
use Rattle.gdbindex_write.specs.declared.symbols.Symbols.{Symbols}
use Rattle.gdbindex_write.specs.Elements.{vector_by}

-- a name with the elements of its vector
abbrev pub Group : Type 0
Group = List ℕ × List ℕ

-- a name with the vector of the entries that have it, where the units have these numbers
abbrev pub group_by : List ℕ → List Entry → List ℕ → Group
group_by numbers entries name = (name, vector_by numbers (filter (is_named name) entries))

-- whether the vector has elements
abbrev pub has_elements : Group → Bool
has_elements g = nat_lt 0 (length g.1)

-- the names of symbols
abbrev pub names_of : List Symbol → List (List ℕ)
names_of list = map (λ s. s.name.now) list

-- the vectors of symbols among these elements
abbrev pub vectors_of : List ℕ → List Symbol → List (List ℕ)
vectors_of elements list = map (λ s. slice_range elements s.start s.end) list

-- the symbols as groups
abbrev pub groups_seen : List ℕ → List Symbol → List Group
groups_seen elements list = map (λ s. (s.name.now, slice_range elements s.start s.end)) list

-- each symbol has elements among so many
abbrev pub AreWithin : ℕ → List Symbol → Type 0
AreWithin n list = All (λ s. (s.start ≤ s.end) × (s.end ≤ n)) list

-- the symbols are the names of the index, each with its vector
pub record AreSymbolsOf (numbers : List ℕ) (entries : List Entry) (s : Symbols) : Type 0 where
  pub are : groups_seen s.elements.items s.list.items ≡ map (group_by numbers entries) (index_names entries)
  pub within : AreWithin (length s.elements.items) s.list.items
