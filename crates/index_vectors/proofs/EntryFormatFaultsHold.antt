-- Written by tools/gen_vectors.py; not to be changed by hand.
-- Each row of EntryFormatFaults, by computation.
use Rattle.std.proofs.Common.{refl}
use Rattle.std.specs.Prelude.{codes}
use Rattle.index_vectors.specs.Says.{ListsFiles}
use Rattle.index_vectors.specs.EntryFormatFaults.{file_0, file_1, file_2, file_3, file_4, file_5, file_6, file_7}
use Rattle.index_vectors.proofs.Opened.{all_defs}

pub files_directory_in_data16 : ListsFiles file_0 (codes "two.h") 15 (codes "files refused 73 0\n")
unfolding all_defs file_0
files_directory_in_data16 = refl

pub files_directory_of_a_string_form : ListsFiles file_1 (codes "two.h") 15 (codes "files refused 73 0\n")
unfolding all_defs file_1
files_directory_of_a_string_form = refl

pub files_form_of_another_content_outside_the_list : ListsFiles file_2 (codes "two.h") 15 (codes "files refused 73 0\n")
unfolding all_defs file_2
files_form_of_another_content_outside_the_list = refl

pub files_form_outside_the_list : ListsFiles file_3 (codes "two.h") 15 (codes "files refused 73 0\n")
unfolding all_defs file_3
files_form_outside_the_list = refl

pub files_path_at_the_end_of_debug_str : ListsFiles file_4 (codes "two.h") 15 (codes "files refused 74 0\n")
unfolding all_defs file_4
files_path_at_the_end_of_debug_str = refl

pub files_path_of_a_directory_past_debug_str : ListsFiles file_5 (codes "two.h") 15 (codes "files refused 74 0\n")
unfolding all_defs file_5
files_path_of_a_directory_past_debug_str = refl

pub files_path_of_no_string_form : ListsFiles file_6 (codes "two.h") 15 (codes "files refused 73 0\n")
unfolding all_defs file_6
files_path_of_no_string_form = refl

pub files_path_past_debug_str : ListsFiles file_7 (codes "two.h") 15 (codes "files refused 74 0\n")
unfolding all_defs file_7
files_path_past_debug_str = refl
