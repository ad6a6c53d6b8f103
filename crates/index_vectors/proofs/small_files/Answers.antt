-- Written by tools/gen_vectors.py; not to be changed by hand.
use Rattle.index_vectors.proofs.SmallFilesHold.{one_name_in_file_a as one_name_in_file_a_holds, main_of_file_a as main_of_file_a_holds, address_inside_file_a as address_inside_file_a_holds, address_past_file_a as address_past_file_a_holds, ask_address_of_16_digits as ask_address_of_16_digits_holds, ask_name_of_two_words as ask_name_of_two_words_holds, ask_name_with_two_spaces as ask_name_with_two_spaces_holds, nothing_indexed_in_file_e as nothing_indexed_in_file_e_holds, indexed_name_before_its_base as indexed_name_before_its_base_holds, c_compiler_file_int as c_compiler_file_int_holds, c_compiler_file_main as c_compiler_file_main_holds, c_compiler_file_main_program as c_compiler_file_main_program_holds, c_compiler_file_parameter as c_compiler_file_parameter_holds, three_helpers as three_helpers_holds, cache_of_file_a as cache_of_file_a_holds, usage_ask_address_of_17_digits as usage_ask_address_of_17_digits_holds, usage_ask_address_with_prefix as usage_ask_address_with_prefix_holds, usage_ask_empty_name as usage_ask_empty_name_holds, usage_ask_main_and_more as usage_ask_main_and_more_holds, usage_ask_name_without_a_name as usage_ask_name_without_a_name_holds}
use Rattle.index_vectors.proofs.small_files.Goals as goal

pub returns : goal.returns
returns c = record {
  one_name_in_file_a = one_name_in_file_a_holds;
  main_of_file_a = main_of_file_a_holds;
  address_inside_file_a = address_inside_file_a_holds;
  address_past_file_a = address_past_file_a_holds;
  ask_address_of_16_digits = ask_address_of_16_digits_holds;
  ask_name_of_two_words = ask_name_of_two_words_holds;
  ask_name_with_two_spaces = ask_name_with_two_spaces_holds;
  nothing_indexed_in_file_e = nothing_indexed_in_file_e_holds;
  indexed_name_before_its_base = indexed_name_before_its_base_holds;
  c_compiler_file_int = c_compiler_file_int_holds;
  c_compiler_file_main = c_compiler_file_main_holds;
  c_compiler_file_main_program = c_compiler_file_main_program_holds;
  c_compiler_file_parameter = c_compiler_file_parameter_holds;
  three_helpers = three_helpers_holds;
  cache_of_file_a = cache_of_file_a_holds;
  usage_ask_address_of_17_digits = usage_ask_address_of_17_digits_holds;
  usage_ask_address_with_prefix = usage_ask_address_with_prefix_holds;
  usage_ask_empty_name = usage_ask_empty_name_holds;
  usage_ask_main_and_more = usage_ask_main_and_more_holds;
  usage_ask_name_without_a_name = usage_ask_name_without_a_name_holds;
}
