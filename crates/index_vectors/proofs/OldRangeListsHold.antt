-- Written by tools/gen_vectors.py; not to be changed by hand.
-- Each row of OldRangeLists, by computation.
use Rattle.std.proofs.Common.{refl}
use Rattle.std.specs.Prelude.{codes}
use Rattle.index_vectors.specs.Says.{Prints}
use Rattle.index_vectors.specs.OldRangeLists.{file_0, file_1, file_2, file_3, file_4, file_5, file_6, file_7}
use Rattle.index_vectors.proofs.Opened.{all_defs}

pub address_old_list_of_version_2_at_10 : Prints file_0 (codes "addr 10") 0 (codes "none\n")
unfolding all_defs file_0
address_old_list_of_version_2_at_10 = refl

pub address_old_list_of_version_2_at_1010 : Prints file_0 (codes "addr 1010") 0 (codes "unit 0\n")
unfolding all_defs file_0
address_old_list_of_version_2_at_1010 = refl

pub address_old_list_of_version_2_at_1020 : Prints file_0 (codes "addr 1020") 0 (codes "none\n")
unfolding all_defs file_0
address_old_list_of_version_2_at_1020 = refl

pub address_old_list_of_version_2_at_5007 : Prints file_0 (codes "addr 5007") 0 (codes "unit 0\n")
unfolding all_defs file_0
address_old_list_of_version_2_at_5007 = refl

pub address_old_list_of_version_3_at_1010 : Prints file_1 (codes "addr 1010") 0 (codes "unit 0\n")
unfolding all_defs file_1
address_old_list_of_version_3_at_1010 = refl

pub address_old_list_of_version_3_at_5007 : Prints file_1 (codes "addr 5007") 0 (codes "unit 0\n")
unfolding all_defs file_1
address_old_list_of_version_3_at_5007 = refl

pub address_old_list_of_version_4_at_10 : Prints file_2 (codes "addr 10") 0 (codes "none\n")
unfolding all_defs file_2
address_old_list_of_version_4_at_10 = refl

pub address_old_list_of_version_4_at_1010 : Prints file_2 (codes "addr 1010") 0 (codes "unit 0\n")
unfolding all_defs file_2
address_old_list_of_version_4_at_1010 = refl

pub address_old_list_of_version_4_at_1020 : Prints file_2 (codes "addr 1020") 0 (codes "none\n")
unfolding all_defs file_2
address_old_list_of_version_4_at_1020 = refl

pub address_old_list_of_version_4_at_5007 : Prints file_2 (codes "addr 5007") 0 (codes "unit 0\n")
unfolding all_defs file_2
address_old_list_of_version_4_at_5007 = refl

pub address_list_as_a_constant_in_version_2 : Prints file_3 (codes "addr 1010") 0 (codes "unit 0\n")
unfolding all_defs file_3
address_list_as_a_constant_in_version_2 = refl

pub address_list_as_a_constant_in_version_3 : Prints file_4 (codes "addr 1010") 0 (codes "unit 0\n")
unfolding all_defs file_4
address_list_as_a_constant_in_version_3 = refl

pub address_list_as_a_constant_in_version_4 : Prints file_5 (codes "addr 1010") 0 (codes "none\n")
unfolding all_defs file_5
address_list_as_a_constant_in_version_4 = refl

pub address_list_by_index_in_version_4_is_absent : Prints file_6 (codes "addr 1010") 0 (codes "none\n")
unfolding all_defs file_6
address_list_by_index_in_version_4_is_absent = refl

pub address_list_before_low_and_high : Prints file_7 (codes "addr 1000") 0 (codes "none\n")
unfolding all_defs file_7
address_list_before_low_and_high = refl
