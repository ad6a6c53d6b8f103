-- Written by tools/gen_vectors.py; not to be changed by hand.
-- Each row of AddressTables, by computation.
use Rattle.std.proofs.Common.{refl}
use Rattle.std.specs.Prelude.{codes}
use Rattle.index_vectors.specs.Says.{Compares}
use Rattle.index_vectors.specs.AddressTables.{file_0, file_1, file_2, file_3, file_4, file_5, file_6, file_7, file_8, file_9, file_10}
use Rattle.index_vectors.proofs.Opened.{all_defs}

pub aranges_that_agree : Compares file_0 0 (codes "agrees\n")
unfolding all_defs file_0
aranges_that_agree = refl

pub aranges_that_agree_two_workers : Compares file_0 0 (codes "agrees\n")
unfolding all_defs file_0
aranges_that_agree_two_workers = refl

pub aranges_too_short : Compares file_1 0 (codes "differs 1010 none 0\n")
unfolding all_defs file_1
aranges_too_short = refl

pub aranges_too_long : Compares file_2 0 (codes "differs 1020 0 none\n")
unfolding all_defs file_2
aranges_too_long = refl

pub aranges_more_than_the_unit : Compares file_3 0 (codes "differs fff 0 none\n")
unfolding all_defs file_3
aranges_more_than_the_unit = refl

pub aranges_two_sets_of_one_unit : Compares file_4 0 (codes "agrees\n")
unfolding all_defs file_4
aranges_two_sets_of_one_unit = refl

pub aranges_pair_of_address_0_is_dropped : Compares file_5 0 (codes "agrees\n")
unfolding all_defs file_5
aranges_pair_of_address_0_is_dropped = refl

pub aranges_pair_of_length_0_is_dropped : Compares file_6 0 (codes "agrees\n")
unfolding all_defs file_6
aranges_pair_of_length_0_is_dropped = refl

pub aranges_what_follows_the_end_is_ignored : Compares file_7 0 (codes "agrees\n")
unfolding all_defs file_7
aranges_what_follows_the_end_is_ignored = refl

pub aranges_wide_format : Compares file_8 0 (codes "agrees\n")
unfolding all_defs file_8
aranges_wide_format = refl

pub aranges_empty_section : Compares file_9 0 (codes "differs 1000 none 0\n")
unfolding all_defs file_9
aranges_empty_section = refl

pub aranges_without_a_table : Compares file_10 0 (codes "differs 1000 none 0\n")
unfolding all_defs file_10
aranges_without_a_table = refl
