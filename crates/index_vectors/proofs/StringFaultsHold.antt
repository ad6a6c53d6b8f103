-- Written by tools/gen_vectors.py; not to be changed by hand.
-- Each row of StringFaults, by computation.
use Rattle.std.proofs.Common.{refl}
use Rattle.std.specs.Prelude.{codes}
use Rattle.index_vectors.specs.Says.{Prints}
use Rattle.index_vectors.specs.StringFaults.{file_0, file_1, file_2, file_3, file_4, file_5, file_6, file_7, file_8, file_9, file_10, file_11, file_12, file_13}
use Rattle.index_vectors.proofs.Opened.{all_defs}

pub string_strp_past_the_section : Prints file_0 (codes "name main") 1 (codes "refused 13 1e\n")
unfolding all_defs file_0
string_strp_past_the_section = refl

pub string_strp_at_the_end_of_the_section : Prints file_1 (codes "name main") 1 (codes "refused 13 1e\n")
unfolding all_defs file_1
string_strp_at_the_end_of_the_section = refl

pub string_strp_without_a_section : Prints file_2 (codes "name main") 1 (codes "refused 13 1e\n")
unfolding all_defs file_2
string_strp_without_a_section = refl

pub string_strp_without_an_end : Prints file_3 (codes "name main") 1 (codes "refused 13 1e\n")
unfolding all_defs file_3
string_strp_without_an_end = refl

pub string_line_strp_past_the_section : Prints file_4 (codes "name main") 1 (codes "refused 13 1e\n")
unfolding all_defs file_4
string_line_strp_past_the_section = refl

pub string_index_past_the_table : Prints file_5 (codes "name main") 1 (codes "refused 13 22\n")
unfolding all_defs file_5
string_index_past_the_table = refl

pub string_index_partly_past_the_table : Prints file_6 (codes "name main") 1 (codes "refused 13 22\n")
unfolding all_defs file_6
string_index_partly_past_the_table = refl

pub string_index_to_a_bad_offset : Prints file_7 (codes "name main") 1 (codes "refused 13 22\n")
unfolding all_defs file_7
string_index_to_a_bad_offset = refl

pub string_index_of_a_far_base : Prints file_8 (codes "name main") 1 (codes "refused 13 22\n")
unfolding all_defs file_8
string_index_of_a_far_base = refl

pub string_of_the_root_counts : Prints file_9 (codes "name main") 1 (codes "refused 13 c\n")
unfolding all_defs file_9
string_of_the_root_counts = refl

pub strings_of_first_unit_before_walk_of_second : Prints file_10 (codes "name main") 1 (codes "refused 13 1e\n")
unfolding all_defs file_10
strings_of_first_unit_before_walk_of_second = refl

pub string_strx_without_a_base : Prints file_11 (codes "name main") 1 (codes "refused 14 1e\n")
unfolding all_defs file_11
string_strx_without_a_base = refl

pub string_strx1_without_a_base_past_the_table : Prints file_12 (codes "name main") 1 (codes "refused 14 1e\n")
unfolding all_defs file_12
string_strx1_without_a_base_past_the_table = refl

pub indexed_name_without_a_base : Prints file_13 (codes "name main") 1 (codes "refused 14 c\n")
unfolding all_defs file_13
indexed_name_without_a_base = refl
