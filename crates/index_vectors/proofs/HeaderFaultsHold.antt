-- Written by tools/gen_vectors.py; not to be changed by hand.
-- Each row of HeaderFaults, by computation.
use Rattle.std.proofs.Common.{refl}
use Rattle.std.specs.Prelude.{codes}
use Rattle.index_vectors.specs.Says.{Prints}
use Rattle.index_vectors.specs.HeaderFaults.{file_0, file_1, file_2, file_3, file_4, file_5, file_6, file_7, file_8, file_9, file_10, file_11, file_12, file_13, file_14, file_15, file_16, file_17, file_18}
use Rattle.index_vectors.proofs.Opened.{all_defs}

pub debug_info_cut_to_1 : Prints file_0 (codes "name main") 1 (codes "refused 6 0\n")
unfolding all_defs file_0
debug_info_cut_to_1 = refl

pub debug_info_cut_to_4 : Prints file_1 (codes "name main") 1 (codes "refused 6 0\n")
unfolding all_defs file_1
debug_info_cut_to_4 = refl

pub debug_info_cut_to_12 : Prints file_2 (codes "name main") 1 (codes "refused 6 0\n")
unfolding all_defs file_2
debug_info_cut_to_12 = refl

pub debug_info_cut_to_48 : Prints file_3 (codes "name main") 1 (codes "refused 6 0\n")
unfolding all_defs file_3
debug_info_cut_to_48 = refl

pub header_cut_after_2_bytes : Prints file_4 (codes "name main") 1 (codes "refused 6 0\n")
unfolding all_defs file_4
header_cut_after_2_bytes = refl

pub header_cut_after_3_bytes : Prints file_5 (codes "name main") 1 (codes "refused 6 0\n")
unfolding all_defs file_5
header_cut_after_3_bytes = refl

pub header_cut_after_7_bytes : Prints file_6 (codes "name main") 1 (codes "refused 6 0\n")
unfolding all_defs file_6
header_cut_after_7_bytes = refl

pub header_length_0 : Prints file_7 (codes "name main") 1 (codes "refused 6 0\n")
unfolding all_defs file_7
header_length_0 = refl

pub header_length_1 : Prints file_8 (codes "name main") 1 (codes "refused 6 0\n")
unfolding all_defs file_8
header_length_1 = refl

pub header_length_one_too_many : Prints file_9 (codes "name main") 1 (codes "refused 6 0\n")
unfolding all_defs file_9
header_length_one_too_many = refl

pub header_length_too_short_for_the_unit_type : Prints file_10 (codes "name main") 1 (codes "refused 6 0\n")
unfolding all_defs file_10
header_length_too_short_for_the_unit_type = refl

pub header_long_length_of_64_bits : Prints file_11 (codes "name main") 1 (codes "refused 6 0\n")
unfolding all_defs file_11
header_long_length_of_64_bits = refl

pub header_reserved_length : Prints file_12 (codes "name main") 1 (codes "refused 6 0\n")
unfolding all_defs file_12
header_reserved_length = refl

pub header_of_version_4_cut : Prints file_13 (codes "name main") 1 (codes "refused 6 0\n")
unfolding all_defs file_13
header_of_version_4_cut = refl

pub skeleton_unit_without_an_id : Prints file_14 (codes "name main") 1 (codes "refused 6 0\n")
unfolding all_defs file_14
skeleton_unit_without_an_id = refl

pub type_unit_without_an_offset : Prints file_15 (codes "name main") 1 (codes "refused 6 0\n")
unfolding all_defs file_15
type_unit_without_an_offset = refl

pub second_unit_leaves_the_section : Prints file_16 (codes "name main") 1 (codes "refused 6 31\n")
unfolding all_defs file_16
second_unit_leaves_the_section = refl

pub length_cut_at_the_sections_end : Prints file_17 (codes "name main") 1 (codes "refused 6 31\n")
unfolding all_defs file_17
length_cut_at_the_sections_end = refl

pub header_of_second_unit_before_code_of_first : Prints file_18 (codes "name main") 1 (codes "refused 6 31\n")
unfolding all_defs file_18
header_of_second_unit_before_code_of_first = refl
