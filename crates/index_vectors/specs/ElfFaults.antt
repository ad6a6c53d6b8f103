-- Written by tools/gen_vectors.py; not to be changed by hand.
-- The first fault of a file header.
use Rattle.std.specs.Prelude.{ℕ, List, [], ◌∷◌, ◌++◌, codes}
use Rattle.index_vectors.specs.Parts2.{part_55}
use Rattle.index_vectors.specs.Says.{Prints}

unfoldable pub file_0 : List ℕ
file_0 =
    []

unfoldable pub file_1 : List ℕ
file_1 =
    127 ∷ 69 ∷ 76 ∷ 70 ∷ 2 ∷ 1 ∷ 1 ∷ 0 ∷ 0 ∷ 0 ∷ 0 ∷ 0 ∷ 0 ∷ 0 ∷ 0 ∷ 0 ∷ 2 ∷ 0 ∷ 62 ∷ 0 ∷ 1 ∷ 0 ∷ 0 ∷ 0 ∷
    0 ∷ 0 ∷ 0 ∷ 0 ∷ 0 ∷ 0 ∷ 0 ∷ 0 ∷ 0 ∷ 0 ∷ 0 ∷ 0 ∷ 0 ∷ 0 ∷ 0 ∷ 0 ∷ 184 ∷ 0 ∷ 0 ∷ 0 ∷ 0 ∷ 0 ∷ 0 ∷ 0 ∷
    0 ∷ 0 ∷ 0 ∷ 0 ∷ 64 ∷ 0 ∷ 0 ∷ 0 ∷ 0 ∷ 0 ∷ 64 ∷ 0 ∷ 4 ∷ 0 ∷ 3 ∷
    []

unfoldable pub file_2 : List ℕ
file_2 =
    (127 ∷ 69 ∷ 76 ∷ 71 ∷ 2 ∷ 1 ∷ 1 ∷ 0 ∷ 0 ∷ 0 ∷ 0 ∷ 0 ∷ 0 ∷ 0 ∷ 0 ∷ 0 ∷ 2 ∷ 0 ∷ 62 ∷ 0 ∷ 1 ∷ 0 ∷ 0 ∷ 0 ∷
    []) ++
    part_55

unfoldable pub file_3 : List ℕ
file_3 =
    (127 ∷ 69 ∷ 76 ∷ 70 ∷ 1 ∷ 1 ∷ 1 ∷ 0 ∷ 0 ∷ 0 ∷ 0 ∷ 0 ∷ 0 ∷ 0 ∷ 0 ∷ 0 ∷ 2 ∷ 0 ∷ 62 ∷ 0 ∷ 1 ∷ 0 ∷ 0 ∷ 0 ∷
    []) ++
    part_55

unfoldable pub file_4 : List ℕ
file_4 =
    (127 ∷ 69 ∷ 76 ∷ 70 ∷ 2 ∷ 2 ∷ 1 ∷ 0 ∷ 0 ∷ 0 ∷ 0 ∷ 0 ∷ 0 ∷ 0 ∷ 0 ∷ 0 ∷ 2 ∷ 0 ∷ 62 ∷ 0 ∷ 1 ∷ 0 ∷ 0 ∷ 0 ∷
    []) ++
    part_55

unfoldable pub file_5 : List ℕ
file_5 =
    (127 ∷ 69 ∷ 76 ∷ 70 ∷ 0 ∷ 0 ∷ 1 ∷ 0 ∷ 0 ∷ 0 ∷ 0 ∷ 0 ∷ 0 ∷ 0 ∷ 0 ∷ 0 ∷ 2 ∷ 0 ∷ 62 ∷ 0 ∷ 1 ∷ 0 ∷ 0 ∷ 0 ∷
    []) ++
    part_55

unfoldable pub file_6 : List ℕ
file_6 =
    (127 ∷ 69 ∷ 76 ∷ 70 ∷ 2 ∷ 1 ∷ 1 ∷ 0 ∷ 0 ∷ 0 ∷ 0 ∷ 0 ∷ 0 ∷ 0 ∷ 0 ∷ 0 ∷ 1 ∷ 0 ∷ 62 ∷ 0 ∷ 1 ∷ 0 ∷ 0 ∷ 0 ∷
    []) ++
    part_55

unfoldable pub file_7 : List ℕ
file_7 =
    (127 ∷ 69 ∷ 76 ∷ 70 ∷ 2 ∷ 1 ∷ 1 ∷ 0 ∷ 0 ∷ 0 ∷ 0 ∷ 0 ∷ 0 ∷ 0 ∷ 0 ∷ 0 ∷ 4 ∷ 0 ∷ 62 ∷ 0 ∷ 1 ∷ 0 ∷ 0 ∷ 0 ∷
    []) ++
    part_55

unfoldable pub file_8 : List ℕ
file_8 =
    (127 ∷ 69 ∷ 76 ∷ 70 ∷ 2 ∷ 2 ∷ 1 ∷ 0 ∷ 0 ∷ 0 ∷ 0 ∷ 0 ∷ 0 ∷ 0 ∷ 0 ∷ 0 ∷ 1 ∷ 0 ∷ 62 ∷ 0 ∷ 1 ∷ 0 ∷ 0 ∷ 0 ∷
    []) ++
    part_55

-- what each row says
abbrev pub ElfFaults : Type 0
ElfFaults = record {
  empty_file : Prints file_0 (codes "name main") 1 (codes "refused 1 0\n");
  file_a_cut_to_63_bytes : Prints file_1 (codes "name main") 1 (codes "refused 1 0\n");
  other_magic : Prints file_2 (codes "name main") 1 (codes "refused 1 0\n");
  elf_class_32 : Prints file_3 (codes "name main") 1 (codes "refused 2 4\n");
  elf_big_endian : Prints file_4 (codes "name main") 1 (codes "refused 2 5\n");
  elf_class_before_order_of_bytes : Prints file_5 (codes "name main") 1 (codes "refused 2 4\n");
  relocatable_file : Prints file_6 (codes "name main") 1 (codes "refused 2 10\n");
  elf_core_file : Prints file_7 (codes "name main") 1 (codes "refused 2 10\n");
  elf_order_of_bytes_before_type : Prints file_8 (codes "name main") 1 (codes "refused 2 5\n");
}
