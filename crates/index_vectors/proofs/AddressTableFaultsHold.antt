-- Written by tools/gen_vectors.py; not to be changed by hand.
-- Each row of AddressTableFaults, by computation.
use Rattle.std.proofs.Common.{refl}
use Rattle.std.specs.Prelude.{codes}
use Rattle.index_vectors.specs.Says.{Compares}
use Rattle.index_vectors.specs.AddressTableFaults.{file_0, file_1, file_2, file_3, file_4, file_5, file_6, file_7, file_8, file_9, file_10, file_11, file_12, file_13, file_14, file_15}
use Rattle.index_vectors.proofs.Opened.{all_defs}

pub aranges_of_a_refused_file : Compares file_0 1 (codes "refused 1 0\n")
unfolding all_defs file_0
aranges_of_a_refused_file = refl

pub aranges_length_cut : Compares file_1 14 (codes "aranges refused 60 0\n")
unfolding all_defs file_1
aranges_length_cut = refl

pub aranges_length_reserved : Compares file_2 14 (codes "aranges refused 60 0\n")
unfolding all_defs file_2
aranges_length_reserved = refl

pub aranges_set_past_the_section : Compares file_3 14 (codes "aranges refused 60 0\n")
unfolding all_defs file_3
aranges_set_past_the_section = refl

pub aranges_header_cut : Compares file_4 14 (codes "aranges refused 60 0\n")
unfolding all_defs file_4
aranges_header_cut = refl

pub aranges_header_cut_before_the_version_counts : Compares file_5 14 (codes "aranges refused 60 0\n")
unfolding all_defs file_5
aranges_header_cut_before_the_version_counts = refl

pub aranges_version_3 : Compares file_6 14 (codes "aranges refused 61 0\n")
unfolding all_defs file_6
aranges_version_3 = refl

pub aranges_version_before_offset : Compares file_7 14 (codes "aranges refused 61 0\n")
unfolding all_defs file_7
aranges_version_before_offset = refl

pub aranges_of_no_unit : Compares file_8 14 (codes "aranges refused 62 0\n")
unfolding all_defs file_8
aranges_of_no_unit = refl

pub aranges_offset_before_address_size : Compares file_9 14 (codes "aranges refused 62 0\n")
unfolding all_defs file_9
aranges_offset_before_address_size = refl

pub aranges_address_size_4 : Compares file_10 14 (codes "aranges refused 63 0\n")
unfolding all_defs file_10
aranges_address_size_4 = refl

pub aranges_segment_size_1 : Compares file_11 14 (codes "aranges refused 63 0\n")
unfolding all_defs file_11
aranges_segment_size_1 = refl

pub aranges_header_alone : Compares file_12 14 (codes "aranges refused 64 0\n")
unfolding all_defs file_12
aranges_header_alone = refl

pub aranges_without_an_end : Compares file_13 14 (codes "aranges refused 64 0\n")
unfolding all_defs file_13
aranges_without_an_end = refl

pub aranges_end_cut : Compares file_14 14 (codes "aranges refused 64 0\n")
unfolding all_defs file_14
aranges_end_cut = refl

pub aranges_second_set : Compares file_15 14 (codes "aranges refused 61 30\n")
unfolding all_defs file_15
aranges_second_set = refl
