-- Written by tools/gen_vectors.py; not to be changed by hand.
use Rattle.index_vectors.proofs.WalksHold.{walk_closed_by_the_units_end as walk_closed_by_the_units_end_holds, walk_padded_null_ends_children as walk_padded_null_ends_children_holds, walk_root_of_tag_3c as walk_root_of_tag_3c_holds, walk_root_of_tag_41 as walk_root_of_tag_41_holds, walk_root_of_tag_4a as walk_root_of_tag_4a_holds, walk_root_without_children as walk_root_without_children_holds, walk_zeros_after_the_tree as walk_zeros_after_the_tree_holds, padded_code_of_the_root as padded_code_of_the_root_holds, indirect_form as indirect_form_holds, first_of_two_names_counts as first_of_two_names_counts_holds, second_of_two_names_doesnt_count as second_of_two_names_doesnt_count_holds, flag_declaration as flag_declaration_holds, flag_declaration_of_byte_0 as flag_declaration_of_byte_0_holds, flag_external_flag_of_byte_0 as flag_external_flag_of_byte_0_holds, flag_external_flag_of_byte_2 as flag_external_flag_of_byte_2_holds, flag_external_in_a_data_form_is_absent as flag_external_in_a_data_form_is_absent_holds, flag_no_external as flag_no_external_holds}
use Rattle.index_vectors.proofs.walks.Goals as goal

pub returns : goal.returns
returns c = record {
  walk_closed_by_the_units_end = walk_closed_by_the_units_end_holds;
  walk_padded_null_ends_children = walk_padded_null_ends_children_holds;
  walk_root_of_tag_3c = walk_root_of_tag_3c_holds;
  walk_root_of_tag_41 = walk_root_of_tag_41_holds;
  walk_root_of_tag_4a = walk_root_of_tag_4a_holds;
  walk_root_without_children = walk_root_without_children_holds;
  walk_zeros_after_the_tree = walk_zeros_after_the_tree_holds;
  padded_code_of_the_root = padded_code_of_the_root_holds;
  indirect_form = indirect_form_holds;
  first_of_two_names_counts = first_of_two_names_counts_holds;
  second_of_two_names_doesnt_count = second_of_two_names_doesnt_count_holds;
  flag_declaration = flag_declaration_holds;
  flag_declaration_of_byte_0 = flag_declaration_of_byte_0_holds;
  flag_external_flag_of_byte_0 = flag_external_flag_of_byte_0_holds;
  flag_external_flag_of_byte_2 = flag_external_flag_of_byte_2_holds;
  flag_external_in_a_data_form_is_absent = flag_external_in_a_data_form_is_absent_holds;
  flag_no_external = flag_no_external_holds;
}
