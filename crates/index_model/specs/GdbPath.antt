-- Where the path of a name leads in the symbol table of a `.gdb_index` (GDB manual, index section format).
use Rattle.std.specs.Prelude.{ℕ, not, List, [], length, find, Option, Some, None}
use Rattle.index_model.specs.Hashes.{path}
use Rattle.index_model.specs.GdbIndexRead.{Slot, GdbIndex, slot_or_none, is_other, elements_of}

-- where the path of a name ends: at the first slot that is empty or has the name
abbrev pub path_end : List (Option Slot) → List ℕ → Option ℕ
path_end slots name = find (λ k. not (is_other name (slot_or_none slots k))) (path (length slots) name)

-- the elements of a slot with this name, if there is such a slot
abbrev pub elements_at : List (Option Slot) → List ℕ → Option ℕ → List ℕ
elements_at slots name None = []
elements_at slots name (Some k) = elements_of name (slot_or_none slots k)

-- what is found on the path of a name
abbrev pub hits_by_path : GdbIndex → List ℕ → List ℕ
hits_by_path index name = elements_at index.slots name (path_end index.slots name)
