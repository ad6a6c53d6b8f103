-- The elements of vectors (GDB manual, index section format).
use Rattle.std.specs.Prelude.{ℕ, ◌+◌, ◌*◌, ◌^◌, not, nat_lt, if◌then◌else◌, List, map, filter, slice_index}
use Rattle.index_model.specs.declared.entry.Entry.{Entry}
use Rattle.index_model.specs.GdbIndex.{kind_number}
use Rattle.index_model.specs.Ordered.{ascending}

-- the element of an entry, where the units have these numbers
abbrev pub element_by : List ℕ → Entry → ℕ
element_by numbers e = slice_index numbers e.unit + kind_number e.kind * 2 ^ 28 + (if e.local then 2 ^ 31 else 0)

-- the elements of the entries that aren't linkage entries, in their order
abbrev pub elements_by : List ℕ → List Entry → List ℕ
elements_by numbers entries = map (element_by numbers) (filter (λ e. not e.linkage) entries)

-- their distinct elements, ascending
abbrev pub vector_by : List ℕ → List Entry → List ℕ
vector_by numbers entries = ascending nat_lt (elements_by numbers entries)
