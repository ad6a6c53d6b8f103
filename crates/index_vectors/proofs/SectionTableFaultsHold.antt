-- Written by tools/gen_vectors.py; not to be changed by hand.
-- Each row of SectionTableFaults, by computation.
use Rattle.std.proofs.Common.{refl}
use Rattle.std.specs.Prelude.{codes}
use Rattle.index_vectors.specs.Says.{Prints}
use Rattle.index_vectors.specs.SectionTableFaults.{file_0, file_1, file_2, file_3, file_4, file_5, file_6, file_7, file_8, file_9, file_10, file_11, file_12, file_13}
use Rattle.index_vectors.proofs.Opened.{all_defs}

pub section_header_size_63 : Prints file_0 (codes "name main") 1 (codes "refused 3 0\n")
unfolding all_defs file_0
section_header_size_63 = refl

pub section_table_past_the_file : Prints file_1 (codes "name main") 1 (codes "refused 3 0\n")
unfolding all_defs file_1
section_table_past_the_file = refl

pub section_table_far_past_the_file : Prints file_2 (codes "name main") 1 (codes "refused 3 0\n")
unfolding all_defs file_2
section_table_far_past_the_file = refl

pub one_section_too_many : Prints file_3 (codes "name main") 1 (codes "refused 3 0\n")
unfolding all_defs file_3
one_section_too_many = refl

pub names_section_of_no_section : Prints file_4 (codes "name main") 1 (codes "refused 3 0\n")
unfolding all_defs file_4
names_section_of_no_section = refl

pub names_section_past_the_file : Prints file_5 (codes "name main") 1 (codes "refused 3 0\n")
unfolding all_defs file_5
names_section_past_the_file = refl

pub names_section_without_bits : Prints file_6 (codes "name main") 1 (codes "refused 3 1\n")
unfolding all_defs file_6
names_section_without_bits = refl

pub names_section_zero : Prints file_7 (codes "name main") 1 (codes "refused 3 1\n")
unfolding all_defs file_7
names_section_zero = refl

pub names_without_a_last_zero : Prints file_8 (codes "name main") 1 (codes "refused 3 3\n")
unfolding all_defs file_8
names_without_a_last_zero = refl

pub section_past_the_file : Prints file_9 (codes "name main") 1 (codes "refused 3 2\n")
unfolding all_defs file_9
section_past_the_file = refl

pub section_end_past_64_bits : Prints file_10 (codes "name main") 1 (codes "refused 3 2\n")
unfolding all_defs file_10
section_end_past_64_bits = refl

pub section_name_at_the_end_of_the_names : Prints file_11 (codes "name main") 1 (codes "refused 3 1\n")
unfolding all_defs file_11
section_name_at_the_end_of_the_names = refl

pub section_name_past_the_names : Prints file_12 (codes "name main") 1 (codes "refused 3 1\n")
unfolding all_defs file_12
section_name_past_the_names = refl

pub two_sections_past_the_file : Prints file_13 (codes "name main") 1 (codes "refused 3 1\n")
unfolding all_defs file_13
two_sections_past_the_file = refl
