-- What the definitions give of made files, in gdb's words.
use Rattle.std.specs.Prelude.{◌≡◌, ℕ, List, map, Some, unwrap_or, option_map}
use Rattle.index_model.specs.Meaning.{value_of}
use Rattle.index_model.specs.Program.{Program}
use Rattle.index_model.specs.Faults.{program_of}
use Rattle.index_model.specs.GdbIndex.{index_names, vector}
use Rattle.gdb_entries.specs.Entries.{listed}
use Rattle.ada_spelling.specs.AdaNames.{decoded, encoded}

-- of each name of a program, in byte order, its elements
abbrev pub elements_of : Program → List (List ℕ × List ℕ)
elements_of p =
    let units = map (λ w. w.unit) p.walks in
    let entries = listed p in
    map (λ name. (name, vector units entries name)) (index_names entries)

-- an index of the file by gdb's rules has these names with these elements
abbrev pub Lists : List ℕ → List (List ℕ × List ℕ) → Type 0
Lists file names = option_map elements_of (value_of (program_of file)) ≡ Some names

-- a name of Ada as it is listed
abbrev pub ada_listed : List ℕ → List ℕ
ada_listed name = encoded (unwrap_or (decoded name) name)

-- these names of Ada are listed so
abbrev pub ListsAda : List (List ℕ × List ℕ) → Type 0
ListsAda names = map (λ n. ada_listed n.0) names ≡ map (λ n. n.1) names
