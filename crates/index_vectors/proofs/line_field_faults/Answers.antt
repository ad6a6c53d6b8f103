-- Written by tools/gen_vectors.py; not to be changed by hand.
use Rattle.index_vectors.proofs.LineFieldFaultsHold.{files_block_past_the_table as files_block_past_the_table_holds, files_count_cut as files_count_cut_holds, files_cut_table as files_cut_table_holds, files_directories_without_an_end as files_directories_without_an_end_holds, files_directory_leb_too_large as files_directory_leb_too_large_holds, files_entries_cut as files_entries_cut_holds, files_fields_cut as files_fields_cut_holds, files_form_cut as files_form_cut_holds, files_no_formats_and_an_entry as files_no_formats_and_an_entry_holds, files_opcode_lengths_past_the_table as files_opcode_lengths_past_the_table_holds, files_path_cut_before_its_place_counts as files_path_cut_before_its_place_counts_holds, files_string_without_an_end as files_string_without_an_end_holds}
use Rattle.index_vectors.proofs.line_field_faults.Goals as goal

pub returns : goal.returns
returns c = record {
  files_block_past_the_table = files_block_past_the_table_holds;
  files_count_cut = files_count_cut_holds;
  files_cut_table = files_cut_table_holds;
  files_directories_without_an_end = files_directories_without_an_end_holds;
  files_directory_leb_too_large = files_directory_leb_too_large_holds;
  files_entries_cut = files_entries_cut_holds;
  files_fields_cut = files_fields_cut_holds;
  files_form_cut = files_form_cut_holds;
  files_no_formats_and_an_entry = files_no_formats_and_an_entry_holds;
  files_opcode_lengths_past_the_table = files_opcode_lengths_past_the_table_holds;
  files_path_cut_before_its_place_counts = files_path_cut_before_its_place_counts_holds;
  files_string_without_an_end = files_string_without_an_end_holds;
}
