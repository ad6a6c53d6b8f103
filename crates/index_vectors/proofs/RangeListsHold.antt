-- Written by tools/gen_vectors.py; not to be changed by hand.
-- Each row of RangeLists, by computation.
use Rattle.std.proofs.Common.{refl}
use Rattle.std.specs.Prelude.{codes}
use Rattle.index_vectors.specs.Says.{Prints}
use Rattle.index_vectors.specs.RangeLists.{file_0, file_1, file_2, file_3, file_4, file_5, file_6, file_7, file_8, file_9, file_10, file_11, file_12, file_13, file_14, file_15, file_16}
use Rattle.index_vectors.proofs.Opened.{all_defs}

pub address_offset_pair_100f_outside : Prints file_0 (codes "addr 100f") 0 (codes "none\n")
unfolding all_defs file_0
address_offset_pair_100f_outside = refl

pub address_offset_pair_1010_inside : Prints file_0 (codes "addr 1010") 0 (codes "unit 0\n")
unfolding all_defs file_0
address_offset_pair_1010_inside = refl

pub address_offset_pair_101f_inside : Prints file_0 (codes "addr 101f") 0 (codes "unit 0\n")
unfolding all_defs file_0
address_offset_pair_101f_inside = refl

pub address_offset_pair_1020_outside : Prints file_0 (codes "addr 1020") 0 (codes "none\n")
unfolding all_defs file_0
address_offset_pair_1020_outside = refl

pub address_base_address_1010_outside : Prints file_1 (codes "addr 1010") 0 (codes "none\n")
unfolding all_defs file_1
address_base_address_1010_outside = refl

pub address_base_address_5010_inside : Prints file_1 (codes "addr 5010") 0 (codes "unit 0\n")
unfolding all_defs file_1
address_base_address_5010_inside = refl

pub address_base_past_2_64_1_outside : Prints file_2 (codes "addr 1") 0 (codes "none\n")
unfolding all_defs file_2
address_base_past_2_64_1_outside = refl

pub address_bytes_after_the_end_1010_inside : Prints file_3 (codes "addr 1010") 0 (codes "unit 0\n")
unfolding all_defs file_3
address_bytes_after_the_end_1010_inside = refl

pub address_end_below_low_1018_outside : Prints file_4 (codes "addr 1018") 0 (codes "none\n")
unfolding all_defs file_4
address_end_below_low_1018_outside = refl

pub address_end_below_low_1030_inside : Prints file_4 (codes "addr 1030") 0 (codes "unit 0\n")
unfolding all_defs file_4
address_end_below_low_1030_inside = refl

pub address_end_past_2_64_fffffffffffffff0_inside : Prints file_5 (codes "addr fffffffffffffff0") 0 (codes "unit 0\n")
unfolding all_defs file_5
address_end_past_2_64_fffffffffffffff0_inside = refl

pub address_end_past_2_64_ffffffffffffffff_outside : Prints file_5 (codes "addr ffffffffffffffff") 0 (codes "none\n")
unfolding all_defs file_5
address_end_past_2_64_ffffffffffffffff_outside = refl

pub address_indexed_base_1010 : Prints file_6 (codes "addr 1010") 0 (codes "none\n")
unfolding all_defs file_6
address_indexed_base_1010 = refl

pub address_indexed_base_2010 : Prints file_6 (codes "addr 2010") 0 (codes "unit 0\n")
unfolding all_defs file_6
address_indexed_base_2010 = refl

pub address_indexed_low_is_the_base : Prints file_7 (codes "addr 1010") 0 (codes "unit 0\n")
unfolding all_defs file_7
address_indexed_low_is_the_base = refl

pub address_indexed_start_end_1000 : Prints file_8 (codes "addr 1000") 0 (codes "unit 0\n")
unfolding all_defs file_8
address_indexed_start_end_1000 = refl

pub address_indexed_start_end_1fff : Prints file_8 (codes "addr 1fff") 0 (codes "unit 0\n")
unfolding all_defs file_8
address_indexed_start_end_1fff = refl

pub address_indexed_start_end_2000 : Prints file_8 (codes "addr 2000") 0 (codes "none\n")
unfolding all_defs file_8
address_indexed_start_end_2000 = refl

pub address_indexed_start_length_200f : Prints file_9 (codes "addr 200f") 0 (codes "unit 0\n")
unfolding all_defs file_9
address_indexed_start_length_200f = refl

pub address_indexed_start_length_2010 : Prints file_9 (codes "addr 2010") 0 (codes "none\n")
unfolding all_defs file_9
address_indexed_start_length_2010 = refl

pub address_list_by_index : Prints file_10 (codes "addr 1010") 0 (codes "unit 0\n")
unfolding all_defs file_10
address_list_by_index = refl

pub address_start_0_is_dropped_10_outside : Prints file_11 (codes "addr 10") 0 (codes "none\n")
unfolding all_defs file_11
address_start_0_is_dropped_10_outside = refl

pub address_start_0_is_dropped_1000_outside : Prints file_11 (codes "addr 1000") 0 (codes "none\n")
unfolding all_defs file_11
address_start_0_is_dropped_1000_outside = refl

pub address_start_at_2_64_less_2_fffffffffffffffe_outside : Prints file_12 (codes "addr fffffffffffffffe") 0 (codes "none\n")
unfolding all_defs file_12
address_start_at_2_64_less_2_fffffffffffffffe_outside = refl

pub address_start_at_2_64_less_3_fffffffffffffffd_inside : Prints file_13 (codes "addr fffffffffffffffd") 0 (codes "unit 0\n")
unfolding all_defs file_13
address_start_at_2_64_less_3_fffffffffffffffd_inside = refl

pub address_start_at_2_64_less_3_ffffffffffffffff_outside : Prints file_13 (codes "addr ffffffffffffffff") 0 (codes "none\n")
unfolding all_defs file_13
address_start_at_2_64_less_3_ffffffffffffffff_outside = refl

pub address_start_end_20_inside : Prints file_14 (codes "addr 20") 0 (codes "unit 0\n")
unfolding all_defs file_14
address_start_end_20_inside = refl

pub address_start_end_30_outside : Prints file_14 (codes "addr 30") 0 (codes "none\n")
unfolding all_defs file_14
address_start_end_30_outside = refl

pub address_start_length_9f_inside : Prints file_15 (codes "addr 9f") 0 (codes "unit 0\n")
unfolding all_defs file_15
address_start_length_9f_inside = refl

pub address_start_length_a0_outside : Prints file_15 (codes "addr a0") 0 (codes "none\n")
unfolding all_defs file_15
address_start_length_a0_outside = refl

pub address_two_pairs_1007_inside : Prints file_16 (codes "addr 1007") 0 (codes "unit 0\n")
unfolding all_defs file_16
address_two_pairs_1007_inside = refl

pub address_two_pairs_1008_outside : Prints file_16 (codes "addr 1008") 0 (codes "none\n")
unfolding all_defs file_16
address_two_pairs_1008_outside = refl

pub address_two_pairs_1010_inside : Prints file_16 (codes "addr 1010") 0 (codes "unit 0\n")
unfolding all_defs file_16
address_two_pairs_1010_inside = refl
