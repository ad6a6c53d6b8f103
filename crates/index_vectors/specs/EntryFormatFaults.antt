-- Written by tools/gen_vectors.py; not to be changed by hand.
-- Forms that entries may not have, and paths that pass their section.
use Rattle.std.specs.Prelude.{ℕ, List, [], ◌∷◌, ◌++◌, codes}
use Rattle.index_vectors.specs.Parts1.{part_4, part_19, part_24}
use Rattle.index_vectors.specs.Parts7.{part_267, part_268, part_269}
use Rattle.index_vectors.specs.Says.{ListsFiles}

unfoldable pub file_0 : List ℕ
file_0 =
    part_267 ++
    (0 ∷ 1 ∷ 1 ∷ 1 ∷ 251 ∷ 14 ∷ 1 ∷ 0 ∷ 0 ∷ 1 ∷ 2 ∷ 30 ∷ 0 ∷ 111 ∷ 110 ∷ 101 ∷ 46 ∷ 99 ∷ 0 ∷ 100 ∷ 105 ∷ 114 ∷ 47 ∷ 116 ∷
    []) ++
    part_19

unfoldable pub file_1 : List ℕ
file_1 =
    part_267 ++
    (0 ∷ 1 ∷ 1 ∷ 1 ∷ 251 ∷ 14 ∷ 1 ∷ 0 ∷ 0 ∷ 1 ∷ 2 ∷ 8 ∷ 0 ∷ 111 ∷ 110 ∷ 101 ∷ 46 ∷ 99 ∷ 0 ∷ 100 ∷ 105 ∷ 114 ∷ 47 ∷ 116 ∷
    []) ++
    part_19

unfoldable pub file_2 : List ℕ
file_2 =
    part_267 ++
    (0 ∷ 1 ∷ 1 ∷ 1 ∷ 251 ∷ 14 ∷ 1 ∷ 0 ∷ 0 ∷ 1 ∷ 4 ∷ 23 ∷ 0 ∷ 111 ∷ 110 ∷ 101 ∷ 46 ∷ 99 ∷ 0 ∷ 100 ∷ 105 ∷ 114 ∷ 47 ∷ 116 ∷
    []) ++
    part_19

unfoldable pub file_3 : List ℕ
file_3 =
    part_267 ++
    (0 ∷ 1 ∷ 1 ∷ 1 ∷ 251 ∷ 14 ∷ 1 ∷ 0 ∷ 0 ∷ 1 ∷ 1 ∷ 37 ∷ 0 ∷ 111 ∷ 110 ∷ 101 ∷ 46 ∷ 99 ∷ 0 ∷ 100 ∷ 105 ∷ 114 ∷ 47 ∷ 116 ∷
    []) ++
    part_19

unfoldable pub file_4 : List ℕ
file_4 =
    part_268 ++
    (0 ∷ 1 ∷ 1 ∷ 1 ∷ 251 ∷ 14 ∷ 1 ∷ 0 ∷ 0 ∷ 1 ∷ 1 ∷ 14 ∷ 1 ∷ 16 ∷ 0 ∷ 0 ∷ 0 ∷ 111 ∷ 110 ∷ 101 ∷ 46 ∷ 99 ∷ 0 ∷ 100 ∷
    []) ++
    part_24

unfoldable pub file_5 : List ℕ
file_5 =
    part_269 ++
    (97 ∷ 46 ∷ 99 ∷ 0 ∷ 12 ∷ 0 ∷ 0 ∷ 0 ∷ 0 ∷ 2 ∷ 116 ∷ 0 ∷ 0 ∷ 26 ∷ 0 ∷ 0 ∷ 0 ∷ 5 ∷ 0 ∷ 8 ∷ 0 ∷ 0 ∷ 0 ∷ 0 ∷
    0 ∷ 1 ∷ 1 ∷ 1 ∷ 251 ∷ 14 ∷ 1 ∷ 1 ∷ 1 ∷ 14 ∷ 1 ∷ 17 ∷ 0 ∷ 0 ∷ 0 ∷ 1 ∷ 1 ∷ 8 ∷ 0 ∷ 111 ∷ 110 ∷ 101 ∷ 46 ∷ 99 ∷
    []) ++
    part_4 ++
    (30 ∷ 0 ∷ 0 ∷ 0 ∷ 0 ∷ 0 ∷ 0 ∷ 0 ∷ 0 ∷ 0 ∷ 0 ∷ 0 ∷ 0 ∷ 0 ∷ 0 ∷ 0 ∷ 1 ∷ 0 ∷ 0 ∷ 0 ∷ 0 ∷ 0 ∷ 0 ∷ 0 ∷
    0 ∷ 0 ∷ 0 ∷ 0 ∷ 0 ∷ 0 ∷ 0 ∷ 0 ∷ 39 ∷ 0 ∷ 0 ∷ 0 ∷ 1 ∷ 0 ∷ 0 ∷ 0 ∷ 0 ∷ 0 ∷ 0 ∷ 0 ∷ 0 ∷ 0 ∷ 0 ∷ 0 ∷
    0 ∷ 0 ∷ 0 ∷ 0 ∷ 0 ∷ 0 ∷ 0 ∷ 0 ∷ 139 ∷ 0 ∷ 0 ∷ 0 ∷ 0 ∷ 0 ∷ 0 ∷ 0 ∷ 16 ∷ 0 ∷ 0 ∷ 0 ∷ 0 ∷ 0 ∷ 0 ∷ 0 ∷
    0 ∷ 0 ∷ 0 ∷ 0 ∷ 0 ∷ 0 ∷ 0 ∷ 0 ∷ 1 ∷ 0 ∷ 0 ∷ 0 ∷ 0 ∷ 0 ∷ 0 ∷ 0 ∷ 0 ∷ 0 ∷ 0 ∷ 0 ∷ 0 ∷ 0 ∷ 0 ∷ 0 ∷
    50 ∷ 0 ∷ 0 ∷ 0 ∷ 1 ∷ 0 ∷ 0 ∷ 0 ∷ 0 ∷ 0 ∷ 0 ∷ 0 ∷ 0 ∷ 0 ∷ 0 ∷ 0 ∷ 0 ∷ 0 ∷ 0 ∷ 0 ∷ 0 ∷ 0 ∷ 0 ∷ 0 ∷
    155 ∷ 0 ∷ 0 ∷ 0 ∷ 0 ∷ 0 ∷ 0 ∷ 0 ∷ 18 ∷ 0 ∷ 0 ∷ 0 ∷ 0 ∷ 0 ∷ 0 ∷ 0 ∷ 0 ∷ 0 ∷ 0 ∷ 0 ∷ 0 ∷ 0 ∷ 0 ∷ 0 ∷
    1 ∷ 0 ∷ 0 ∷ 0 ∷ 0 ∷ 0 ∷ 0 ∷ 0 ∷ 0 ∷ 0 ∷ 0 ∷ 0 ∷ 0 ∷ 0 ∷ 0 ∷ 0 ∷ 66 ∷ 0 ∷ 0 ∷ 0 ∷ 3 ∷ 0 ∷ 0 ∷ 0 ∷
    0 ∷ 0 ∷ 0 ∷ 0 ∷ 0 ∷ 0 ∷ 0 ∷ 0 ∷ 0 ∷ 0 ∷ 0 ∷ 0 ∷ 0 ∷ 0 ∷ 0 ∷ 0 ∷ 173 ∷ 0 ∷ 0 ∷ 0 ∷ 0 ∷ 0 ∷ 0 ∷ 0 ∷
    76 ∷ 0 ∷ 0 ∷ 0 ∷ 0 ∷ 0 ∷ 0 ∷ 0 ∷ 0 ∷ 0 ∷ 0 ∷ 0 ∷ 0 ∷ 0 ∷ 0 ∷ 0 ∷ 1 ∷ 0 ∷ 0 ∷ 0 ∷ 0 ∷ 0 ∷ 0 ∷ 0 ∷
    0 ∷ 0 ∷ 0 ∷ 0 ∷ 0 ∷ 0 ∷ 0 ∷ 0 ∷
    [])

unfoldable pub file_6 : List ℕ
file_6 =
    part_267 ++
    (0 ∷ 1 ∷ 1 ∷ 1 ∷ 251 ∷ 14 ∷ 1 ∷ 0 ∷ 0 ∷ 1 ∷ 1 ∷ 11 ∷ 0 ∷ 111 ∷ 110 ∷ 101 ∷ 46 ∷ 99 ∷ 0 ∷ 100 ∷ 105 ∷ 114 ∷ 47 ∷ 116 ∷
    []) ++
    part_19

unfoldable pub file_7 : List ℕ
file_7 =
    part_268 ++
    (0 ∷ 1 ∷ 1 ∷ 1 ∷ 251 ∷ 14 ∷ 1 ∷ 0 ∷ 0 ∷ 1 ∷ 1 ∷ 14 ∷ 1 ∷ 17 ∷ 0 ∷ 0 ∷ 0 ∷ 111 ∷ 110 ∷ 101 ∷ 46 ∷ 99 ∷ 0 ∷ 100 ∷
    []) ++
    part_24

-- what each row says
abbrev pub EntryFormatFaults : Type 0
EntryFormatFaults = record {
  files_directory_in_data16 : ListsFiles file_0 (codes "two.h") 15 (codes "files refused 73 0\n");
  files_directory_of_a_string_form : ListsFiles file_1 (codes "two.h") 15 (codes "files refused 73 0\n");
  files_form_of_another_content_outside_the_list : ListsFiles file_2 (codes "two.h") 15 (codes "files refused 73 0\n");
  files_form_outside_the_list : ListsFiles file_3 (codes "two.h") 15 (codes "files refused 73 0\n");
  files_path_at_the_end_of_debug_str : ListsFiles file_4 (codes "two.h") 15 (codes "files refused 74 0\n");
  files_path_of_a_directory_past_debug_str : ListsFiles file_5 (codes "two.h") 15 (codes "files refused 74 0\n");
  files_path_of_no_string_form : ListsFiles file_6 (codes "two.h") 15 (codes "files refused 73 0\n");
  files_path_past_debug_str : ListsFiles file_7 (codes "two.h") 15 (codes "files refused 74 0\n");
}
