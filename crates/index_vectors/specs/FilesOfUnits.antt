-- Written by tools/gen_vectors.py; not to be changed by hand.
-- Files of more than one unit, and the first unit whose table has a fault.
use Rattle.std.specs.Prelude.{ℕ, List, [], ◌∷◌, ◌++◌, codes}
use Rattle.index_vectors.specs.Parts3.{part_89}
use Rattle.index_vectors.specs.Parts6.{part_227}
use Rattle.index_vectors.specs.Parts7.{part_314}
use Rattle.index_vectors.specs.Says.{ListsFiles}

unfoldable pub file_0 : List ℕ
file_0 =
    part_227 ++
    (0 ∷ 0 ∷ 0 ∷ 0 ∷ 32 ∷ 0 ∷ 0 ∷ 0 ∷ 0 ∷ 0 ∷ 0 ∷ 0 ∷ 2 ∷ 109 ∷ 97 ∷ 105 ∷ 110 ∷ 0 ∷ 0 ∷ 32 ∷ 0 ∷ 0 ∷ 0 ∷ 0 ∷
    []) ++
    part_314 ++
    (0 ∷ 0 ∷ 0 ∷ 5 ∷ 0 ∷ 8 ∷ 0 ∷ 0 ∷ 0 ∷ 0 ∷ 0 ∷ 1 ∷ 1 ∷ 1 ∷ 251 ∷ 14 ∷ 1 ∷ 1 ∷ 1 ∷ 8 ∷ 2 ∷ 47 ∷ 116 ∷ 0 ∷
    []) ++
    part_89

unfoldable pub file_1 : List ℕ
file_1 =
    part_227 ++
    (0 ∷ 0 ∷ 0 ∷ 0 ∷ 32 ∷ 0 ∷ 0 ∷ 0 ∷ 232 ∷ 3 ∷ 0 ∷ 0 ∷ 2 ∷ 109 ∷ 97 ∷ 105 ∷ 110 ∷ 0 ∷ 0 ∷ 32 ∷ 0 ∷ 0 ∷ 0 ∷ 0 ∷
    []) ++
    part_314 ++
    (0 ∷ 0 ∷ 0 ∷ 6 ∷ 0 ∷ 8 ∷ 0 ∷ 0 ∷ 0 ∷ 0 ∷ 0 ∷ 1 ∷ 1 ∷ 1 ∷ 251 ∷ 14 ∷ 1 ∷ 1 ∷ 1 ∷ 8 ∷ 2 ∷ 47 ∷ 116 ∷ 0 ∷
    []) ++
    part_89

-- what each row says
abbrev pub FilesOfUnits : Type 0
FilesOfUnits = record {
  files_in_three_units : ListsFiles file_0 (codes "h.h") 0 (codes "found 3\n0 2 1 h.h\n1 2 1 h.h\n2 1 1 sub/h.h\n");
  files_first_damaged_table_counts : ListsFiles file_1 (codes "h.h") 15 (codes "files refused 70 35\n");
}
