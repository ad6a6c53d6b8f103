-- Written by tools/gen_vectors.py; not to be changed by hand.
-- Each row of Strings, by computation.
use Rattle.std.proofs.Common.{refl}
use Rattle.std.specs.Prelude.{codes}
use Rattle.index_vectors.specs.Says.{Prints}
use Rattle.index_vectors.specs.Strings.{file_0, file_1, file_2, file_3, file_4, file_5, file_6, file_7, file_8, file_9, file_10, file_11, file_12}
use Rattle.index_vectors.proofs.Opened.{all_defs}

pub string_strp : Prints file_0 (codes "name main") 0 (codes "found 1\n0 1e 2e function global name main\n")
unfolding all_defs file_0
string_strp = refl

pub string_line_strp : Prints file_1 (codes "name main") 0 (codes "found 1\n0 1e 2e function global name main\n")
unfolding all_defs file_1
string_line_strp = refl

pub string_indirect_strp : Prints file_2 (codes "name main") 0 (codes "found 1\n0 1e 2e function global name main\n")
unfolding all_defs file_2
string_indirect_strp = refl

pub string_in_two_sections : Prints file_3 (codes "name main") 0 (codes "found 1\n0 1e 2e function global name main\n")
unfolding all_defs file_3
string_in_two_sections = refl

pub string_tail_of_another : Prints file_4 (codes "name in") 0 (codes "found 1\n0 1e 2e function global name in\n")
unfolding all_defs file_4
string_tail_of_another = refl

pub string_empty_is_no_name : Prints file_5 (codes "name main") 0 (codes "found 0\n")
unfolding all_defs file_5
string_empty_is_no_name = refl

pub string_name_in_a_data_form_is_absent : Prints file_6 (codes "name main") 0 (codes "found 0\n")
unfolding all_defs file_6
string_name_in_a_data_form_is_absent = refl

pub string_index_form_1a_of_1_bytes : Prints file_7 (codes "name main") 0 (codes "found 1\n0 22 2e function global name main\n")
unfolding all_defs file_7
string_index_form_1a_of_1_bytes = refl

pub string_index_form_1a_of_2_bytes : Prints file_8 (codes "name main") 0 (codes "found 1\n0 22 2e function global name main\n")
unfolding all_defs file_8
string_index_form_1a_of_2_bytes = refl

pub string_index_form_25_of_1_bytes : Prints file_9 (codes "name main") 0 (codes "found 1\n0 22 2e function global name main\n")
unfolding all_defs file_9
string_index_form_25_of_1_bytes = refl

pub string_index_form_26_of_2_bytes : Prints file_10 (codes "name main") 0 (codes "found 1\n0 22 2e function global name main\n")
unfolding all_defs file_10
string_index_form_26_of_2_bytes = refl

pub string_index_form_27_of_3_bytes : Prints file_11 (codes "name main") 0 (codes "found 1\n0 22 2e function global name main\n")
unfolding all_defs file_11
string_index_form_27_of_3_bytes = refl

pub string_index_form_28_of_4_bytes : Prints file_12 (codes "name main") 0 (codes "found 1\n0 22 2e function global name main\n")
unfolding all_defs file_12
string_index_form_28_of_4_bytes = refl
