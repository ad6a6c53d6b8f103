-- Written by tools/gen_vectors.py; not to be changed by hand.
use Rattle.index_vectors.proofs.AddressTableFaultsHold.{aranges_of_a_refused_file as aranges_of_a_refused_file_holds, aranges_length_cut as aranges_length_cut_holds, aranges_length_reserved as aranges_length_reserved_holds, aranges_set_past_the_section as aranges_set_past_the_section_holds, aranges_header_cut as aranges_header_cut_holds, aranges_header_cut_before_the_version_counts as aranges_header_cut_before_the_version_counts_holds, aranges_version_3 as aranges_version_3_holds, aranges_version_before_offset as aranges_version_before_offset_holds, aranges_of_no_unit as aranges_of_no_unit_holds, aranges_offset_before_address_size as aranges_offset_before_address_size_holds, aranges_address_size_4 as aranges_address_size_4_holds, aranges_segment_size_1 as aranges_segment_size_1_holds, aranges_header_alone as aranges_header_alone_holds, aranges_without_an_end as aranges_without_an_end_holds, aranges_end_cut as aranges_end_cut_holds, aranges_second_set as aranges_second_set_holds}
use Rattle.index_vectors.proofs.address_table_faults.Goals as goal

pub returns : goal.returns
returns c = record {
  aranges_of_a_refused_file = aranges_of_a_refused_file_holds;
  aranges_length_cut = aranges_length_cut_holds;
  aranges_length_reserved = aranges_length_reserved_holds;
  aranges_set_past_the_section = aranges_set_past_the_section_holds;
  aranges_header_cut = aranges_header_cut_holds;
  aranges_header_cut_before_the_version_counts = aranges_header_cut_before_the_version_counts_holds;
  aranges_version_3 = aranges_version_3_holds;
  aranges_version_before_offset = aranges_version_before_offset_holds;
  aranges_of_no_unit = aranges_of_no_unit_holds;
  aranges_offset_before_address_size = aranges_offset_before_address_size_holds;
  aranges_address_size_4 = aranges_address_size_4_holds;
  aranges_segment_size_1 = aranges_segment_size_1_holds;
  aranges_header_alone = aranges_header_alone_holds;
  aranges_without_an_end = aranges_without_an_end_holds;
  aranges_end_cut = aranges_end_cut_holds;
  aranges_second_set = aranges_second_set_holds;
}
