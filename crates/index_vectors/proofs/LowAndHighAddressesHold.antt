-- Written by tools/gen_vectors.py; not to be changed by hand.
-- Each row of LowAndHighAddresses, by computation.
use Rattle.std.proofs.Common.{refl}
use Rattle.std.specs.Prelude.{codes}
use Rattle.index_vectors.specs.Says.{Prints}
use Rattle.index_vectors.specs.LowAndHighAddresses.{file_0, file_1, file_2, file_3, file_4, file_5, file_6, file_7, file_8, file_9, file_10, file_11, file_12, file_13, file_14}
use Rattle.index_vectors.proofs.Opened.{all_defs}

pub address_high_as_an_address : Prints file_0 (codes "addr 17ff") 0 (codes "unit 0\n")
unfolding all_defs file_0
address_high_as_an_address = refl

pub address_high_as_sdata : Prints file_1 (codes "addr 100f") 0 (codes "unit 0\n")
unfolding all_defs file_1
address_high_as_sdata = refl

pub address_high_as_a_constant_of_the_abbreviation : Prints file_2 (codes "addr 101f") 0 (codes "unit 0\n")
unfolding all_defs file_2
address_high_as_a_constant_of_the_abbreviation = refl

pub address_high_as_negative_sdata_is_absent : Prints file_3 (codes "addr 1000") 0 (codes "none\n")
unfolding all_defs file_3
address_high_as_negative_sdata_is_absent = refl

pub address_indexed_low_and_high : Prints file_4 (codes "addr 1fff") 0 (codes "unit 0\n")
unfolding all_defs file_4
address_indexed_low_and_high = refl

pub address_indexed_low_alone_isnt_read : Prints file_5 (codes "addr 20") 0 (codes "none\n")
unfolding all_defs file_5
address_indexed_low_alone_isnt_read = refl

pub address_subprogram_in_a_class : Prints file_6 (codes "addr 3008") 0 (codes "unit 0\n")
unfolding all_defs file_6
address_subprogram_in_a_class = refl

pub address_subprogram_that_isnt_visited : Prints file_7 (codes "addr 3008") 0 (codes "none\n")
unfolding all_defs file_7
address_subprogram_that_isnt_visited = refl

pub address_subprogram_without_a_name : Prints file_8 (codes "addr 3008") 0 (codes "none\n")
unfolding all_defs file_8
address_subprogram_without_a_name = refl

pub address_subprograms_dont_count_beside_an_empty_list : Prints file_9 (codes "addr 3008") 0 (codes "none\n")
unfolding all_defs file_9
address_subprograms_dont_count_beside_an_empty_list = refl

pub address_subprograms_dont_count_beside_the_root : Prints file_10 (codes "addr 3008") 0 (codes "none\n")
unfolding all_defs file_10
address_subprograms_dont_count_beside_the_root = refl

pub address_subprograms_where_the_root_has_low_alone : Prints file_11 (codes "addr 3008") 0 (codes "unit 0\n")
unfolding all_defs file_11
address_subprograms_where_the_root_has_low_alone = refl

pub address_subprograms_where_the_root_has_none : Prints file_12 (codes "addr 3008") 0 (codes "unit 0\n")
unfolding all_defs file_12
address_subprograms_where_the_root_has_none = refl

pub address_fault_of_a_subprogram_that_isnt_asked : Prints file_13 (codes "addr 1000") 0 (codes "unit 0\n")
unfolding all_defs file_13
address_fault_of_a_subprogram_that_isnt_asked = refl

pub overlapping_units_at_fff : Prints file_14 (codes "addr fff") 0 (codes "none\n")
unfolding all_defs file_14
overlapping_units_at_fff = refl

pub overlapping_units_at_17ff : Prints file_14 (codes "addr 17ff") 0 (codes "unit 0\n")
unfolding all_defs file_14
overlapping_units_at_17ff = refl

pub overlapping_units_at_1800 : Prints file_14 (codes "addr 1800") 0 (codes "unit 1\n")
unfolding all_defs file_14
overlapping_units_at_1800 = refl

pub overlapping_units_at_1fff : Prints file_14 (codes "addr 1fff") 0 (codes "unit 1\n")
unfolding all_defs file_14
overlapping_units_at_1fff = refl

pub overlapping_units_at_2000 : Prints file_14 (codes "addr 2000") 0 (codes "none\n")
unfolding all_defs file_14
overlapping_units_at_2000 = refl

pub overlapping_units_at_upper_case_1fff : Prints file_14 (codes "addr 1FFF") 0 (codes "unit 1\n")
unfolding all_defs file_14
overlapping_units_at_upper_case_1fff = refl
