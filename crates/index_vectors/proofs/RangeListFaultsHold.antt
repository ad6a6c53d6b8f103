-- Written by tools/gen_vectors.py; not to be changed by hand.
-- Each row of RangeListFaults, by computation.
use Rattle.std.proofs.Common.{refl}
use Rattle.std.specs.Prelude.{codes}
use Rattle.index_vectors.specs.Says.{Prints}
use Rattle.index_vectors.specs.RangeListFaults.{file_0, file_1, file_2, file_3, file_4, file_5, file_6, file_7, file_8, file_9, file_10, file_11, file_12}
use Rattle.index_vectors.proofs.Opened.{all_defs}

pub address_list_by_index_past_the_section : Prints file_0 (codes "addr 1010") 1 (codes "refused 15 c\n")
unfolding all_defs file_0
address_list_by_index_past_the_section = refl

pub address_list_cut_in_a_number : Prints file_1 (codes "addr 1010") 1 (codes "refused 15 c\n")
unfolding all_defs file_1
address_list_cut_in_a_number = refl

pub address_list_cut_in_an_address : Prints file_2 (codes "addr 1010") 1 (codes "refused 15 c\n")
unfolding all_defs file_2
address_list_cut_in_an_address = refl

pub address_list_kind_4_cut : Prints file_3 (codes "addr 1010") 1 (codes "refused 15 c\n")
unfolding all_defs file_3
address_list_kind_4_cut = refl

pub address_list_of_a_leb_too_large : Prints file_4 (codes "addr 1010") 1 (codes "refused 15 c\n")
unfolding all_defs file_4
address_list_of_a_leb_too_large = refl

pub address_list_of_an_unknown_kind : Prints file_5 (codes "addr 1010") 1 (codes "refused 15 c\n")
unfolding all_defs file_5
address_list_of_an_unknown_kind = refl

pub address_list_of_version_2_without_an_end : Prints file_6 (codes "addr 1010") 1 (codes "refused 15 b\n")
unfolding all_defs file_6
address_list_of_version_2_without_an_end = refl

pub address_list_of_version_3_without_an_end : Prints file_7 (codes "addr 1010") 1 (codes "refused 15 b\n")
unfolding all_defs file_7
address_list_of_version_3_without_an_end = refl

pub address_list_of_version_4_without_an_end : Prints file_8 (codes "addr 1010") 1 (codes "refused 15 b\n")
unfolding all_defs file_8
address_list_of_version_4_without_an_end = refl

pub address_list_past_its_section : Prints file_9 (codes "addr 0") 1 (codes "refused 15 c\n")
unfolding all_defs file_9
address_list_past_its_section = refl

pub address_list_without_a_section : Prints file_10 (codes "addr 1010") 1 (codes "refused 15 c\n")
unfolding all_defs file_10
address_list_without_a_section = refl

pub address_list_without_an_end : Prints file_11 (codes "addr 1010") 1 (codes "refused 15 c\n")
unfolding all_defs file_11
address_list_without_an_end = refl

pub address_fault_of_a_subprogram : Prints file_12 (codes "addr 3008") 1 (codes "refused 15 d\n")
unfolding all_defs file_12
address_fault_of_a_subprogram = refl
