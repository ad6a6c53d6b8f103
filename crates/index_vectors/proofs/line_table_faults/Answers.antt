-- Written by tools/gen_vectors.py; not to be changed by hand.
use Rattle.index_vectors.proofs.LineTableFaultsHold.{files_length_cut as files_length_cut_holds, files_length_past_the_section as files_length_past_the_section_holds, files_length_reserved as files_length_reserved_holds, files_table_past_the_section as files_table_past_the_section_holds, files_version_1 as files_version_1_holds, files_version_6 as files_version_6_holds, files_version_cut as files_version_cut_holds, files_without_a_section as files_without_a_section_holds}
use Rattle.index_vectors.proofs.line_table_faults.Goals as goal

pub returns : goal.returns
returns c = record {
  files_length_cut = files_length_cut_holds;
  files_length_past_the_section = files_length_past_the_section_holds;
  files_length_reserved = files_length_reserved_holds;
  files_table_past_the_section = files_table_past_the_section_holds;
  files_version_1 = files_version_1_holds;
  files_version_6 = files_version_6_holds;
  files_version_cut = files_version_cut_holds;
  files_without_a_section = files_without_a_section_holds;
}
