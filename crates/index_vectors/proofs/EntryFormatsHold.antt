-- Written by tools/gen_vectors.py; not to be changed by hand.
-- Each row of EntryFormats, by computation.
use Rattle.std.proofs.Common.{refl}
use Rattle.std.specs.Prelude.{codes}
use Rattle.index_vectors.specs.Says.{ListsFiles}
use Rattle.index_vectors.specs.EntryFormats.{file_0, file_1, file_2, file_3, file_4, file_5, file_6, file_7, file_8, file_9, file_10, file_11}
use Rattle.index_vectors.proofs.Opened.{all_defs}

pub files_directory_before_path : ListsFiles file_0 (codes "two.h") 0 (codes "found 1\n0 0 128 two.h\n")
unfolding all_defs file_0
files_directory_before_path = refl

pub files_no_formats_and_no_entries : ListsFiles file_1 (codes "two.h") 0 (codes "found 0\n")
unfolding all_defs file_1
files_no_formats_and_no_entries = refl

pub files_of_version_5 : ListsFiles file_2 (codes "two.h") 0 (codes "found 1\n0 1 0 x/two.h\n")
unfolding all_defs file_2
files_of_version_5 = refl

pub files_of_version_5_with_a_directory : ListsFiles file_3 (codes "two.h") 0 (codes "found 1\n0 1 9 two.h\n")
unfolding all_defs file_3
files_of_version_5_with_a_directory = refl

pub files_other_contents_are_skipped : ListsFiles file_4 (codes "two.h") 0 (codes "found 1\n0 0 0 two.h\n")
unfolding all_defs file_4
files_other_contents_are_skipped = refl

pub files_behind_blocks : ListsFiles file_5 (codes "two.h") 0 (codes "found 2\n0 0 0 two.h\n0 1 0 two.h\n")
unfolding all_defs file_5
files_behind_blocks = refl

pub files_path_in_a_directory_table : ListsFiles file_6 (codes "two.h") 0 (codes "found 1\n0 0 0 two.h\n")
unfolding all_defs file_6
files_path_in_a_directory_table = refl

pub files_path_in_debug_line_str : ListsFiles file_7 (codes "four.h") 0 (codes "found 1\n0 1 0 /d/four.h\n")
unfolding all_defs file_7
files_path_in_debug_line_str = refl

pub files_path_in_debug_str : ListsFiles file_8 (codes "two.h") 0 (codes "found 1\n0 1 0 dir/two.h\n")
unfolding all_defs file_8
files_path_in_debug_str = refl

pub files_path_is_missing : ListsFiles file_9 (codes "two.h") 0 (codes "found 0\n")
unfolding all_defs file_9
files_path_is_missing = refl

pub files_second_directory_is_skipped : ListsFiles file_10 (codes "two.h") 0 (codes "found 1\n0 0 5 two.h\n")
unfolding all_defs file_10
files_second_directory_is_skipped = refl

pub files_second_path_is_skipped : ListsFiles file_11 (codes "two.h") 0 (codes "found 1\n0 0 0 two.h\n")
unfolding all_defs file_11
files_second_path_is_skipped = refl
