-- Written by tools/gen_vectors.py; not to be changed by hand.
-- Each row of SectionsThatPass, by computation.
use Rattle.std.proofs.Common.{refl}
use Rattle.std.specs.Prelude.{codes}
use Rattle.index_vectors.specs.Says.{Prints}
use Rattle.index_vectors.specs.SectionsThatPass.{file_0, file_1, file_2, file_3, file_4, file_5, file_6, file_7}
use Rattle.index_vectors.proofs.Opened.{all_defs}

pub shared_object : Prints file_0 (codes "name main") 0 (codes "found 1\n0 1e 2e function global name main\n")
unfolding all_defs file_0
shared_object = refl

pub names_section_in_section_0 : Prints file_1 (codes "name main") 0 (codes "found 1\n0 1e 2e function global name main\n")
unfolding all_defs file_1
names_section_in_section_0 = refl

pub number_of_sections_in_section_0 : Prints file_2 (codes "name main") 0 (codes "found 1\n0 1e 2e function global name main\n")
unfolding all_defs file_2
number_of_sections_in_section_0 = refl

pub section_0_with_a_wild_header : Prints file_3 (codes "name main") 0 (codes "found 1\n0 1e 2e function global name main\n")
unfolding all_defs file_3
section_0_with_a_wild_header = refl

pub section_without_bits_past_the_file : Prints file_4 (codes "name main") 0 (codes "found 1\n0 1e 2e function global name main\n")
unfolding all_defs file_4
section_without_bits_past_the_file = refl

pub second_debug_info_doesnt_count : Prints file_5 (codes "name main") 0 (codes "found 1\n0 1e 2e function global name main\n")
unfolding all_defs file_5
second_debug_info_doesnt_count = refl

pub compressed_text_isnt_debug_information : Prints file_6 (codes "name main") 0 (codes "found 1\n0 1e 2e function global name main\n")
unfolding all_defs file_6
compressed_text_isnt_debug_information = refl

pub gnu_link_once_name_counts_as_another : Prints file_7 (codes "name main") 0 (codes "found 1\n0 1e 2e function global name main\n")
unfolding all_defs file_7
gnu_link_once_name_counts_as_another = refl
