-- Written by tools/gen_vectors.py; not to be changed by hand.
-- Each row of LineFieldFaults, by computation.
use Rattle.std.proofs.Common.{refl}
use Rattle.std.specs.Prelude.{codes}
use Rattle.index_vectors.specs.Says.{ListsFiles}
use Rattle.index_vectors.specs.LineFieldFaults.{file_0, file_1, file_2, file_3, file_4, file_5, file_6, file_7, file_8, file_9, file_10, file_11}
use Rattle.index_vectors.proofs.Opened.{all_defs}

pub files_block_past_the_table : ListsFiles file_0 (codes "two.h") 15 (codes "files refused 72 0\n")
unfolding all_defs file_0
files_block_past_the_table = refl

pub files_count_cut : ListsFiles file_1 (codes "two.h") 15 (codes "files refused 72 0\n")
unfolding all_defs file_1
files_count_cut = refl

pub files_cut_table : ListsFiles file_2 (codes "h.h") 15 (codes "files refused 72 0\n")
unfolding all_defs file_2
files_cut_table = refl

pub files_directories_without_an_end : ListsFiles file_3 (codes "two.h") 15 (codes "files refused 72 0\n")
unfolding all_defs file_3
files_directories_without_an_end = refl

pub files_directory_leb_too_large : ListsFiles file_4 (codes "two.h") 15 (codes "files refused 72 0\n")
unfolding all_defs file_4
files_directory_leb_too_large = refl

pub files_entries_cut : ListsFiles file_5 (codes "two.h") 15 (codes "files refused 72 0\n")
unfolding all_defs file_5
files_entries_cut = refl

pub files_fields_cut : ListsFiles file_6 (codes "two.h") 15 (codes "files refused 72 0\n")
unfolding all_defs file_6
files_fields_cut = refl

pub files_form_cut : ListsFiles file_7 (codes "two.h") 15 (codes "files refused 72 0\n")
unfolding all_defs file_7
files_form_cut = refl

pub files_no_formats_and_an_entry : ListsFiles file_8 (codes "two.h") 15 (codes "files refused 72 0\n")
unfolding all_defs file_8
files_no_formats_and_an_entry = refl

pub files_opcode_lengths_past_the_table : ListsFiles file_9 (codes "two.h") 15 (codes "files refused 72 0\n")
unfolding all_defs file_9
files_opcode_lengths_past_the_table = refl

pub files_path_cut_before_its_place_counts : ListsFiles file_10 (codes "two.h") 15 (codes "files refused 72 0\n")
unfolding all_defs file_10
files_path_cut_before_its_place_counts = refl

pub files_string_without_an_end : ListsFiles file_11 (codes "two.h") 15 (codes "files refused 72 0\n")
unfolding all_defs file_11
files_string_without_an_end = refl
