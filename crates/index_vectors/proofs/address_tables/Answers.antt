-- Written by tools/gen_vectors.py; not to be changed by hand.
use Rattle.index_vectors.proofs.AddressTablesHold.{aranges_that_agree as aranges_that_agree_holds, aranges_that_agree_two_workers as aranges_that_agree_two_workers_holds, aranges_too_short as aranges_too_short_holds, aranges_too_long as aranges_too_long_holds, aranges_more_than_the_unit as aranges_more_than_the_unit_holds, aranges_two_sets_of_one_unit as aranges_two_sets_of_one_unit_holds, aranges_pair_of_address_0_is_dropped as aranges_pair_of_address_0_is_dropped_holds, aranges_pair_of_length_0_is_dropped as aranges_pair_of_length_0_is_dropped_holds, aranges_what_follows_the_end_is_ignored as aranges_what_follows_the_end_is_ignored_holds, aranges_wide_format as aranges_wide_format_holds, aranges_empty_section as aranges_empty_section_holds, aranges_without_a_table as aranges_without_a_table_holds}
use Rattle.index_vectors.proofs.address_tables.Goals as goal

pub returns : goal.returns
returns c = record {
  aranges_that_agree = aranges_that_agree_holds;
  aranges_that_agree_two_workers = aranges_that_agree_two_workers_holds;
  aranges_too_short = aranges_too_short_holds;
  aranges_too_long = aranges_too_long_holds;
  aranges_more_than_the_unit = aranges_more_than_the_unit_holds;
  aranges_two_sets_of_one_unit = aranges_two_sets_of_one_unit_holds;
  aranges_pair_of_address_0_is_dropped = aranges_pair_of_address_0_is_dropped_holds;
  aranges_pair_of_length_0_is_dropped = aranges_pair_of_length_0_is_dropped_holds;
  aranges_what_follows_the_end_is_ignored = aranges_what_follows_the_end_is_ignored_holds;
  aranges_wide_format = aranges_wide_format_holds;
  aranges_empty_section = aranges_empty_section_holds;
  aranges_without_a_table = aranges_without_a_table_holds;
}
