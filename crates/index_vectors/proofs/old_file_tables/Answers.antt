-- Written by tools/gen_vectors.py; not to be changed by hand.
use Rattle.index_vectors.proofs.OldFileTablesHold.{files_by_name as files_by_name_holds, files_bytes_after_the_tables as files_bytes_after_the_tables_holds, files_first_file as files_first_file_holds, files_no_directories as files_no_directories_holds, files_no_files as files_no_files_holds, files_of_the_64_bit_format as files_of_the_64_bit_format_holds, files_of_version_2 as files_of_version_2_holds, files_of_version_3 as files_of_version_3_holds, files_of_version_4 as files_of_version_4_holds, files_opcode_base_0 as files_opcode_base_0_holds, files_other_name as files_other_name_holds, files_place_as_a_constant_in_version_2 as files_place_as_a_constant_in_version_2_holds, files_place_as_a_constant_in_version_3 as files_place_as_a_constant_in_version_3_holds, files_place_as_a_constant_in_version_4_is_absent as files_place_as_a_constant_in_version_4_is_absent_holds, files_whole_path as files_whole_path_holds, files_with_opcode_lengths as files_with_opcode_lengths_holds, files_with_workers as files_with_workers_holds, files_without_a_table as files_without_a_table_holds}
use Rattle.index_vectors.proofs.old_file_tables.Goals as goal

pub returns : goal.returns
returns c = record {
  files_by_name = files_by_name_holds;
  files_bytes_after_the_tables = files_bytes_after_the_tables_holds;
  files_first_file = files_first_file_holds;
  files_no_directories = files_no_directories_holds;
  files_no_files = files_no_files_holds;
  files_of_the_64_bit_format = files_of_the_64_bit_format_holds;
  files_of_version_2 = files_of_version_2_holds;
  files_of_version_3 = files_of_version_3_holds;
  files_of_version_4 = files_of_version_4_holds;
  files_opcode_base_0 = files_opcode_base_0_holds;
  files_other_name = files_other_name_holds;
  files_place_as_a_constant_in_version_2 = files_place_as_a_constant_in_version_2_holds;
  files_place_as_a_constant_in_version_3 = files_place_as_a_constant_in_version_3_holds;
  files_place_as_a_constant_in_version_4_is_absent = files_place_as_a_constant_in_version_4_is_absent_holds;
  files_whole_path = files_whole_path_holds;
  files_with_opcode_lengths = files_with_opcode_lengths_holds;
  files_with_workers = files_with_workers_holds;
  files_without_a_table = files_without_a_table_holds;
}
