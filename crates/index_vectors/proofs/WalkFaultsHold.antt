-- Written by tools/gen_vectors.py; not to be changed by hand.
-- Each row of WalkFaults, by computation.
use Rattle.std.proofs.Common.{refl}
use Rattle.std.specs.Prelude.{codes}
use Rattle.index_vectors.specs.Says.{Prints}
use Rattle.index_vectors.specs.WalkFaults.{file_0, file_1, file_2, file_3, file_4, file_5, file_6, file_7, file_8, file_9, file_10, file_11, file_12, file_13, file_14, file_15, file_16, file_17, file_18, file_19}
use Rattle.index_vectors.proofs.Opened.{all_defs}

pub walk_code_cut : Prints file_0 (codes "name main") 1 (codes "refused 11 1e\n")
unfolding all_defs file_0
walk_code_cut = refl

pub walk_root_code_cut : Prints file_1 (codes "name main") 1 (codes "refused 11 c\n")
unfolding all_defs file_1
walk_root_code_cut = refl

pub walk_code_too_large : Prints file_2 (codes "name main") 1 (codes "refused 11 1e\n")
unfolding all_defs file_2
walk_code_too_large = refl

pub walk_high_cut : Prints file_3 (codes "name main") 1 (codes "refused 11 1e\n")
unfolding all_defs file_3
walk_high_cut = refl

pub walk_name_attribute_cut : Prints file_4 (codes "name main") 1 (codes "refused 11 c\n")
unfolding all_defs file_4
walk_name_attribute_cut = refl

pub debug_info_byte_30_made_01 : Prints file_5 (codes "name main") 1 (codes "refused 11 30\n")
unfolding all_defs file_5
debug_info_byte_30_made_01 = refl

pub two_damaged_units_the_first_counts : Prints file_6 (codes "name helper") 1 (codes "refused 11 60\n")
unfolding all_defs file_6
two_damaged_units_the_first_counts = refl

pub debug_info_byte_08_made_01 : Prints file_7 (codes "name main") 1 (codes "refused 19 c\n")
unfolding all_defs file_7
debug_info_byte_08_made_01 = refl

pub debug_info_byte_0c_made_03 : Prints file_8 (codes "name main") 1 (codes "refused 19 c\n")
unfolding all_defs file_8
debug_info_byte_0c_made_03 = refl

pub walk_first_token_a_padded_null : Prints file_9 (codes "name main") 1 (codes "refused 19 c\n")
unfolding all_defs file_9
walk_first_token_a_padded_null = refl

pub walk_unknown_code_before_other_root : Prints file_10 (codes "name main") 1 (codes "refused 19 c\n")
unfolding all_defs file_10
walk_unknown_code_before_other_root = refl

pub debug_abbrev_byte_01_made_10 : Prints file_11 (codes "name main") 1 (codes "refused 20 c\n")
unfolding all_defs file_11
debug_abbrev_byte_01_made_10 = refl

pub walk_root_of_another_tag : Prints file_12 (codes "name main") 1 (codes "refused 20 c\n")
unfolding all_defs file_12
walk_root_of_another_tag = refl

pub debug_info_byte_0c_made_00 : Prints file_13 (codes "name main") 1 (codes "refused 23 d\n")
unfolding all_defs file_13
debug_info_byte_0c_made_00 = refl

pub header_zeros_and_a_one : Prints file_14 (codes "name main") 1 (codes "refused 23 e\n")
unfolding all_defs file_14
header_zeros_and_a_one = refl

pub walk_before_strings : Prints file_15 (codes "name main") 1 (codes "refused 23 31\n")
unfolding all_defs file_15
walk_before_strings = refl

pub walk_byte_after_the_tree : Prints file_16 (codes "name main") 1 (codes "refused 23 33\n")
unfolding all_defs file_16
walk_byte_after_the_tree = refl

pub walk_entry_after_the_tree : Prints file_17 (codes "name main") 1 (codes "refused 23 31\n")
unfolding all_defs file_17
walk_entry_after_the_tree = refl

pub walk_padded_null_and_a_tail : Prints file_18 (codes "name main") 1 (codes "refused 23 33\n")
unfolding all_defs file_18
walk_padded_null_and_a_tail = refl

pub walk_root_without_children_and_a_tail : Prints file_19 (codes "name main") 1 (codes "refused 23 1e\n")
unfolding all_defs file_19
walk_root_without_children_and_a_tail = refl
