-- Written by tools/gen_vectors.py; not to be changed by hand.
-- Each row of AddressIndexFaults, by computation.
use Rattle.std.proofs.Common.{refl}
use Rattle.std.specs.Prelude.{codes}
use Rattle.index_vectors.specs.Says.{Prints}
use Rattle.index_vectors.specs.AddressIndexFaults.{file_0, file_1, file_2, file_3, file_4, file_5, file_6, file_7, file_8, file_9, file_10}
use Rattle.index_vectors.proofs.Opened.{all_defs}

pub address_indexed_base_without_a_base : Prints file_0 (codes "addr 0") 1 (codes "refused 14 c\n")
unfolding all_defs file_0
address_indexed_base_without_a_base = refl

pub address_indexed_high_without_a_base : Prints file_1 (codes "addr 20") 1 (codes "refused 14 c\n")
unfolding all_defs file_1
address_indexed_high_without_a_base = refl

pub address_indexed_low_without_a_base_and_a_list : Prints file_2 (codes "addr 20") 1 (codes "refused 14 c\n")
unfolding all_defs file_2
address_indexed_low_without_a_base_and_a_list = refl

pub address_indexed_start_end_without_a_base : Prints file_3 (codes "addr 0") 1 (codes "refused 14 c\n")
unfolding all_defs file_3
address_indexed_start_end_without_a_base = refl

pub address_indexed_start_length_without_a_base : Prints file_4 (codes "addr 0") 1 (codes "refused 14 c\n")
unfolding all_defs file_4
address_indexed_start_length_without_a_base = refl

pub address_list_by_index_without_a_base : Prints file_5 (codes "addr 1010") 1 (codes "refused 14 c\n")
unfolding all_defs file_5
address_list_by_index_without_a_base = refl

pub address_index_past_the_addresses : Prints file_6 (codes "addr 0") 1 (codes "refused 15 c\n")
unfolding all_defs file_6
address_index_past_the_addresses = refl

pub address_first_index_before_the_second : Prints file_7 (codes "addr 0") 1 (codes "refused 15 c\n")
unfolding all_defs file_7
address_first_index_before_the_second = refl

pub address_indexed_base_without_addresses : Prints file_8 (codes "addr 0") 1 (codes "refused 15 c\n")
unfolding all_defs file_8
address_indexed_base_without_addresses = refl

pub address_indexed_start_end_without_addresses : Prints file_9 (codes "addr 0") 1 (codes "refused 15 c\n")
unfolding all_defs file_9
address_indexed_start_end_without_addresses = refl

pub address_indexed_start_length_without_addresses : Prints file_10 (codes "addr 0") 1 (codes "refused 15 c\n")
unfolding all_defs file_10
address_indexed_start_length_without_addresses = refl
