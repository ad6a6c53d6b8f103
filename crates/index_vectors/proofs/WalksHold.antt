-- Written by tools/gen_vectors.py; not to be changed by hand.
-- Each row of Walks, by computation.
use Rattle.std.proofs.Common.{refl}
use Rattle.std.specs.Prelude.{codes}
use Rattle.index_vectors.specs.Says.{Prints}
use Rattle.index_vectors.specs.Walks.{file_0, file_1, file_2, file_3, file_4, file_5, file_6, file_7, file_8, file_9, file_10, file_11, file_12, file_13, file_14, file_15}
use Rattle.index_vectors.proofs.Opened.{all_defs}

pub walk_closed_by_the_units_end : Prints file_0 (codes "name main") 0 (codes "found 1\n0 1e 2e function global name main\n")
unfolding all_defs file_0
walk_closed_by_the_units_end = refl

pub walk_padded_null_ends_children : Prints file_1 (codes "name main") 0 (codes "found 1\n0 1e 2e function global name main\n")
unfolding all_defs file_1
walk_padded_null_ends_children = refl

pub walk_root_of_tag_3c : Prints file_2 (codes "name main") 0 (codes "found 1\n0 1e 2e function global name main\n")
unfolding all_defs file_2
walk_root_of_tag_3c = refl

pub walk_root_of_tag_41 : Prints file_3 (codes "name main") 0 (codes "found 1\n0 1e 2e function global name main\n")
unfolding all_defs file_3
walk_root_of_tag_41 = refl

pub walk_root_of_tag_4a : Prints file_4 (codes "name main") 0 (codes "found 1\n0 1e 2e function global name main\n")
unfolding all_defs file_4
walk_root_of_tag_4a = refl

pub walk_root_without_children : Prints file_5 (codes "name main") 0 (codes "found 0\n")
unfolding all_defs file_5
walk_root_without_children = refl

pub walk_zeros_after_the_tree : Prints file_6 (codes "name main") 0 (codes "found 1\n0 1e 2e function global name main\n")
unfolding all_defs file_6
walk_zeros_after_the_tree = refl

pub padded_code_of_the_root : Prints file_7 (codes "name main") 0 (codes "found 1\n0 1f 2e function global name main\n")
unfolding all_defs file_7
padded_code_of_the_root = refl

pub indirect_form : Prints file_8 (codes "name main") 0 (codes "found 1\n0 1e 2e function global name main\n")
unfolding all_defs file_8
indirect_form = refl

pub first_of_two_names_counts : Prints file_9 (codes "name main") 0 (codes "found 1\n0 1e 2e function global name main\n")
unfolding all_defs file_9
first_of_two_names_counts = refl

pub second_of_two_names_doesnt_count : Prints file_9 (codes "name other") 0 (codes "found 0\n")
unfolding all_defs file_9
second_of_two_names_doesnt_count = refl

pub flag_declaration : Prints file_10 (codes "name main") 0 (codes "found 0\n")
unfolding all_defs file_10
flag_declaration = refl

pub flag_declaration_of_byte_0 : Prints file_11 (codes "name main") 0 (codes "found 1\n0 1e 2e function static name main\n")
unfolding all_defs file_11
flag_declaration_of_byte_0 = refl

pub flag_external_flag_of_byte_0 : Prints file_12 (codes "name main") 0 (codes "found 1\n0 1e 2e function static name main\n")
unfolding all_defs file_12
flag_external_flag_of_byte_0 = refl

pub flag_external_flag_of_byte_2 : Prints file_13 (codes "name main") 0 (codes "found 1\n0 1e 2e function global name main\n")
unfolding all_defs file_13
flag_external_flag_of_byte_2 = refl

pub flag_external_in_a_data_form_is_absent : Prints file_14 (codes "name main") 0 (codes "found 1\n0 1e 2e function static name main\n")
unfolding all_defs file_14
flag_external_in_a_data_form_is_absent = refl

pub flag_no_external : Prints file_15 (codes "name main") 0 (codes "found 1\n0 1e 2e function static name main\n")
unfolding all_defs file_15
flag_no_external = refl
