-- Written by tools/gen_vectors.py; not to be changed by hand.
use Rattle.index_vectors.proofs.StringsHold.{string_strp as string_strp_holds, string_line_strp as string_line_strp_holds, string_indirect_strp as string_indirect_strp_holds, string_in_two_sections as string_in_two_sections_holds, string_tail_of_another as string_tail_of_another_holds, string_empty_is_no_name as string_empty_is_no_name_holds, string_name_in_a_data_form_is_absent as string_name_in_a_data_form_is_absent_holds, string_index_form_1a_of_1_bytes as string_index_form_1a_of_1_bytes_holds, string_index_form_1a_of_2_bytes as string_index_form_1a_of_2_bytes_holds, string_index_form_25_of_1_bytes as string_index_form_25_of_1_bytes_holds, string_index_form_26_of_2_bytes as string_index_form_26_of_2_bytes_holds, string_index_form_27_of_3_bytes as string_index_form_27_of_3_bytes_holds, string_index_form_28_of_4_bytes as string_index_form_28_of_4_bytes_holds}
use Rattle.index_vectors.proofs.strings.Goals as goal

pub returns : goal.returns
returns c = record {
  string_strp = string_strp_holds;
  string_line_strp = string_line_strp_holds;
  string_indirect_strp = string_indirect_strp_holds;
  string_in_two_sections = string_in_two_sections_holds;
  string_tail_of_another = string_tail_of_another_holds;
  string_empty_is_no_name = string_empty_is_no_name_holds;
  string_name_in_a_data_form_is_absent = string_name_in_a_data_form_is_absent_holds;
  string_index_form_1a_of_1_bytes = string_index_form_1a_of_1_bytes_holds;
  string_index_form_1a_of_2_bytes = string_index_form_1a_of_2_bytes_holds;
  string_index_form_25_of_1_bytes = string_index_form_25_of_1_bytes_holds;
  string_index_form_26_of_2_bytes = string_index_form_26_of_2_bytes_holds;
  string_index_form_27_of_3_bytes = string_index_form_27_of_3_bytes_holds;
  string_index_form_28_of_4_bytes = string_index_form_28_of_4_bytes_holds;
}
