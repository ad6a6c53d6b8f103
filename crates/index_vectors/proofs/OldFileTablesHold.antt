-- Written by tools/gen_vectors.py; not to be changed by hand.
-- Each row of OldFileTables, by computation.
use Rattle.std.proofs.Common.{refl}
use Rattle.std.specs.Prelude.{codes}
use Rattle.index_vectors.specs.Says.{ListsFiles}
use Rattle.index_vectors.specs.OldFileTables.{file_0, file_1, file_2, file_3, file_4, file_5, file_6, file_7, file_8, file_9, file_10, file_11, file_12, file_13}
use Rattle.index_vectors.proofs.Opened.{all_defs}

pub files_by_name : ListsFiles file_0 (codes "h.h") 0 (codes "found 1\n0 2 1 h.h\n")
unfolding all_defs file_0
files_by_name = refl

pub files_bytes_after_the_tables : ListsFiles file_1 (codes "two.h") 0 (codes "found 2\n0 1 2 x/two.h\n0 2 1 two.h\n")
unfolding all_defs file_1
files_bytes_after_the_tables = refl

pub files_first_file : ListsFiles file_0 (codes "a.c") 0 (codes "found 1\n0 1 0 a.c\n")
unfolding all_defs file_0
files_first_file = refl

pub files_no_directories : ListsFiles file_2 (codes "two.h") 0 (codes "found 1\n0 1 0 two.h\n")
unfolding all_defs file_2
files_no_directories = refl

pub files_no_files : ListsFiles file_3 (codes "two.h") 0 (codes "found 0\n")
unfolding all_defs file_3
files_no_files = refl

pub files_of_the_64_bit_format : ListsFiles file_4 (codes "two.h") 0 (codes "found 2\n0 1 2 x/two.h\n0 2 1 two.h\n")
unfolding all_defs file_4
files_of_the_64_bit_format = refl

pub files_of_version_2 : ListsFiles file_5 (codes "two.h") 0 (codes "found 2\n0 1 2 x/two.h\n0 2 1 two.h\n")
unfolding all_defs file_5
files_of_version_2 = refl

pub files_of_version_3 : ListsFiles file_6 (codes "two.h") 0 (codes "found 2\n0 1 2 x/two.h\n0 2 1 two.h\n")
unfolding all_defs file_6
files_of_version_3 = refl

pub files_of_version_4 : ListsFiles file_7 (codes "two.h") 0 (codes "found 2\n0 1 2 x/two.h\n0 2 1 two.h\n")
unfolding all_defs file_7
files_of_version_4 = refl

pub files_opcode_base_0 : ListsFiles file_8 (codes "two.h") 0 (codes "found 2\n0 1 2 x/two.h\n0 2 1 two.h\n")
unfolding all_defs file_8
files_opcode_base_0 = refl

pub files_other_name : ListsFiles file_0 (codes "t") 0 (codes "found 0\n")
unfolding all_defs file_0
files_other_name = refl

pub files_place_as_a_constant_in_version_2 : ListsFiles file_9 (codes "two.h") 0 (codes "found 2\n0 1 2 x/two.h\n0 2 1 two.h\n")
unfolding all_defs file_9
files_place_as_a_constant_in_version_2 = refl

pub files_place_as_a_constant_in_version_3 : ListsFiles file_10 (codes "two.h") 0 (codes "found 2\n0 1 2 x/two.h\n0 2 1 two.h\n")
unfolding all_defs file_10
files_place_as_a_constant_in_version_3 = refl

pub files_place_as_a_constant_in_version_4_is_absent : ListsFiles file_11 (codes "two.h") 0 (codes "found 0\n")
unfolding all_defs file_11
files_place_as_a_constant_in_version_4_is_absent = refl

pub files_whole_path : ListsFiles file_5 (codes "x/two.h") 0 (codes "found 1\n0 1 2 x/two.h\n")
unfolding all_defs file_5
files_whole_path = refl

pub files_with_opcode_lengths : ListsFiles file_12 (codes "two.h") 0 (codes "found 2\n0 1 2 x/two.h\n0 2 1 two.h\n")
unfolding all_defs file_12
files_with_opcode_lengths = refl

pub files_with_workers : ListsFiles file_0 (codes "h.h") 0 (codes "found 1\n0 2 1 h.h\n")
unfolding all_defs file_0
files_with_workers = refl

pub files_without_a_table : ListsFiles file_13 (codes "h.h") 0 (codes "found 0\n")
unfolding all_defs file_13
files_without_a_table = refl
