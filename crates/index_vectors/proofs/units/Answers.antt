-- Written by tools/gen_vectors.py; not to be changed by hand.
use Rattle.index_vectors.proofs.UnitsHold.{unit_of_version_2 as unit_of_version_2_holds, unit_of_version_2_address as unit_of_version_2_address_holds, unit_of_version_3 as unit_of_version_3_holds, unit_of_version_3_address as unit_of_version_3_address_holds, unit_of_version_4 as unit_of_version_4_holds, unit_of_64_bit_format as unit_of_64_bit_format_holds, debug_info_byte_06_made_03 as debug_info_byte_06_made_03_holds, type_unit_header as type_unit_header_holds, skeleton_unit as skeleton_unit_holds, header_alone as header_alone_holds, header_and_zeros as header_and_zeros_holds}
use Rattle.index_vectors.proofs.units.Goals as goal

pub returns : goal.returns
returns c = record {
  unit_of_version_2 = unit_of_version_2_holds;
  unit_of_version_2_address = unit_of_version_2_address_holds;
  unit_of_version_3 = unit_of_version_3_holds;
  unit_of_version_3_address = unit_of_version_3_address_holds;
  unit_of_version_4 = unit_of_version_4_holds;
  unit_of_64_bit_format = unit_of_64_bit_format_holds;
  debug_info_byte_06_made_03 = debug_info_byte_06_made_03_holds;
  type_unit_header = type_unit_header_holds;
  skeleton_unit = skeleton_unit_holds;
  header_alone = header_alone_holds;
  header_and_zeros = header_and_zeros_holds;
}
