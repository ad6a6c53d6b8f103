-- Written by tools/gen_vectors.py; not to be changed by hand.
-- Each row of GdbAreaFaults, by computation.
use Rattle.std.proofs.Common.{refl}
use Rattle.std.specs.Prelude.{codes}
use Rattle.index_vectors.specs.Says.{GdbPrints}
use Rattle.index_vectors.specs.GdbAreaFaults.{file_0, file_1, file_2, file_3, file_4, file_5, file_6, file_7, file_8, file_9, file_10, file_11, file_12, file_13, file_14, file_15, file_16, file_17, file_18, file_19, file_20, file_21, file_22, file_23, file_24, file_25}
use Rattle.index_vectors.proofs.Opened.{all_defs}

pub gdb8_index_cut_to_0 : GdbPrints file_0 (codes "name main") 8 (codes "index refused 40 0\n")
unfolding all_defs file_0
gdb8_index_cut_to_0 = refl

pub gdb8_index_cut_to_3 : GdbPrints file_1 (codes "name main") 8 (codes "index refused 40 0\n")
unfolding all_defs file_1
gdb8_index_cut_to_3 = refl

pub look_gdb_empty_file : GdbPrints file_0 (codes "name main") 8 (codes "index refused 40 0\n")
unfolding all_defs file_0
look_gdb_empty_file = refl

pub look_gdb_version_7 : GdbPrints file_2 (codes "name main") 8 (codes "index refused 40 0\n")
unfolding all_defs file_2
look_gdb_version_7 = refl

pub look_gdb_version_10 : GdbPrints file_3 (codes "name main") 8 (codes "index refused 40 0\n")
unfolding all_defs file_3
look_gdb_version_10 = refl

pub gdb8_index_cut_to_4 : GdbPrints file_4 (codes "name main") 8 (codes "index refused 41 4\n")
unfolding all_defs file_4
gdb8_index_cut_to_4 = refl

pub gdb8_index_cut_to_23 : GdbPrints file_5 (codes "name main") 8 (codes "index refused 41 4\n")
unfolding all_defs file_5
gdb8_index_cut_to_23 = refl

pub gdb8_index_cut_to_24 : GdbPrints file_6 (codes "name main") 8 (codes "index refused 41 8\n")
unfolding all_defs file_6
gdb8_index_cut_to_24 = refl

pub gdb8_index_cut_to_40 : GdbPrints file_7 (codes "name main") 8 (codes "index refused 41 10\n")
unfolding all_defs file_7
gdb8_index_cut_to_40 = refl

pub gdb8_index_cut_to_75 : GdbPrints file_8 (codes "name main") 8 (codes "index refused 41 14\n")
unfolding all_defs file_8
gdb8_index_cut_to_75 = refl

pub look_gdb9_pool_too_near : GdbPrints file_9 (codes "main") 8 (codes "index refused 41 14\n")
unfolding all_defs file_9
look_gdb9_pool_too_near = refl

pub look_gdb_addresses_before_types : GdbPrints file_10 (codes "name main") 8 (codes "index refused 41 c\n")
unfolding all_defs file_10
look_gdb_addresses_before_types = refl

pub look_gdb_cu_list_inside_the_header : GdbPrints file_11 (codes "name main") 8 (codes "index refused 41 4\n")
unfolding all_defs file_11
look_gdb_cu_list_inside_the_header = refl

pub look_gdb_pool_before_table : GdbPrints file_12 (codes "name main") 8 (codes "index refused 41 14\n")
unfolding all_defs file_12
look_gdb_pool_before_table = refl

pub look_gdb_pool_past_the_section : GdbPrints file_13 (codes "name main") 8 (codes "index refused 41 14\n")
unfolding all_defs file_13
look_gdb_pool_past_the_section = refl

pub look_gdb_table_before_addresses : GdbPrints file_14 (codes "name main") 8 (codes "index refused 41 10\n")
unfolding all_defs file_14
look_gdb_table_before_addresses = refl

pub look_gdb_types_before_cus : GdbPrints file_15 (codes "name main") 8 (codes "index refused 41 8\n")
unfolding all_defs file_15
look_gdb_types_before_cus = refl

pub look_gdb_types_past_the_section : GdbPrints file_16 (codes "name main") 8 (codes "index refused 41 8\n")
unfolding all_defs file_16
look_gdb_types_past_the_section = refl

pub look_gdb_version_9_header_cut : GdbPrints file_17 (codes "name main") 8 (codes "index refused 41 4\n")
unfolding all_defs file_17
look_gdb_version_9_header_cut = refl

pub look_gdb_cus_before_types : GdbPrints file_18 (codes "name main") 8 (codes "index refused 42 18\n")
unfolding all_defs file_18
look_gdb_cus_before_types = refl

pub look_gdb_cus_not_a_multiple_of_16 : GdbPrints file_19 (codes "name main") 8 (codes "index refused 42 18\n")
unfolding all_defs file_19
look_gdb_cus_not_a_multiple_of_16 = refl

pub look_gdb_types_not_a_multiple_of_24 : GdbPrints file_20 (codes "name main") 8 (codes "index refused 42 28\n")
unfolding all_defs file_20
look_gdb_types_not_a_multiple_of_24 = refl

pub look_gdb_address_before_table : GdbPrints file_21 (codes "name main") 8 (codes "index refused 43 28\n")
unfolding all_defs file_21
look_gdb_address_before_table = refl

pub look_gdb_address_of_no_unit : GdbPrints file_22 (codes "name main") 8 (codes "index refused 43 28\n")
unfolding all_defs file_22
look_gdb_address_of_no_unit = refl

pub look_gdb_addresses_not_a_multiple_of_20 : GdbPrints file_23 (codes "name main") 8 (codes "index refused 43 28\n")
unfolding all_defs file_23
look_gdb_addresses_not_a_multiple_of_20 = refl

pub look_gdb_table_not_a_multiple_of_8 : GdbPrints file_24 (codes "name main") 8 (codes "index refused 44 3c\n")
unfolding all_defs file_24
look_gdb_table_not_a_multiple_of_8 = refl

pub look_gdb_three_slots : GdbPrints file_25 (codes "name main") 8 (codes "index refused 44 3c\n")
unfolding all_defs file_25
look_gdb_three_slots = refl
