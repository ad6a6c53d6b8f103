-- Written by tools/gen_vectors.py; not to be changed by hand.
use Rattle.index_vectors.proofs.DebugSectionFaultsHold.{damaged_table_before_compressed as damaged_table_before_compressed_holds, compressed_debug_info as compressed_debug_info_holds, compressed_abbreviations as compressed_abbreviations_holds, compressed_abbreviations_and_info as compressed_abbreviations_and_info_holds, zdebug_section as zdebug_section_holds, no_section_debug_info as no_section_debug_info_holds, debug_info_empty as debug_info_empty_holds, debug_info_of_size_0 as debug_info_of_size_0_holds, debug_info_of_type_0 as debug_info_of_type_0_holds, debug_info_without_bits as debug_info_without_bits_holds}
use Rattle.index_vectors.proofs.debug_section_faults.Goals as goal

pub returns : goal.returns
returns c = record {
  damaged_table_before_compressed = damaged_table_before_compressed_holds;
  compressed_debug_info = compressed_debug_info_holds;
  compressed_abbreviations = compressed_abbreviations_holds;
  compressed_abbreviations_and_info = compressed_abbreviations_and_info_holds;
  zdebug_section = zdebug_section_holds;
  no_section_debug_info = no_section_debug_info_holds;
  debug_info_empty = debug_info_empty_holds;
  debug_info_of_size_0 = debug_info_of_size_0_holds;
  debug_info_of_type_0 = debug_info_of_type_0_holds;
  debug_info_without_bits = debug_info_without_bits_holds;
}
