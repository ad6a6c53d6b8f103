-- Written by tools/gen_vectors.py; not to be changed by hand.
-- Each row of GdbSlotFaults, by computation.
use Rattle.std.proofs.Common.{refl}
use Rattle.std.specs.Prelude.{codes}
use Rattle.index_vectors.specs.Says.{GdbPrints}
use Rattle.index_vectors.specs.GdbSlotFaults.{file_0, file_1, file_2, file_3, file_4, file_5, file_6, file_7, file_8, file_9, file_10, file_11, file_12, file_13, file_14, file_15, file_16, file_17}
use Rattle.index_vectors.proofs.Opened.{all_defs}

pub gdb8_index_cut_to_76 : GdbPrints file_0 (codes "name main") 8 (codes "index refused 45 44\n")
unfolding all_defs file_0
gdb8_index_cut_to_76 = refl

pub gdb8_index_cut_to_88 : GdbPrints file_1 (codes "name main") 8 (codes "index refused 45 44\n")
unfolding all_defs file_1
gdb8_index_cut_to_88 = refl

pub look_gdb9_main_without_an_end : GdbPrints file_2 (codes "main") 8 (codes "index refused 45 50\n")
unfolding all_defs file_2
look_gdb9_main_without_an_end = refl

pub look_gdb_first_slot_filled_too_with_a_bad_name : GdbPrints file_3 (codes "name main") 8 (codes "index refused 45 3c\n")
unfolding all_defs file_3
look_gdb_first_slot_filled_too_with_a_bad_name = refl

pub look_gdb_name_at_the_end_of_the_pool : GdbPrints file_4 (codes "name main") 8 (codes "index refused 45 44\n")
unfolding all_defs file_4
look_gdb_name_at_the_end_of_the_pool = refl

pub look_gdb_name_past_the_pool : GdbPrints file_5 (codes "name main") 8 (codes "index refused 45 44\n")
unfolding all_defs file_5
look_gdb_name_past_the_pool = refl

pub look_gdb_name_without_an_end : GdbPrints file_1 (codes "name main") 8 (codes "index refused 45 44\n")
unfolding all_defs file_1
look_gdb_name_without_an_end = refl

pub look_gdb_shortcut_before_lost_slot : GdbPrints file_6 (codes "name main") 8 (codes "index refused 45 50\n")
unfolding all_defs file_6
look_gdb_shortcut_before_lost_slot = refl

pub look_gdb_shortcut_of_a_large_language_and_a_bad_name : GdbPrints file_7 (codes "main") 8 (codes "index refused 45 50\n")
unfolding all_defs file_7
look_gdb_shortcut_of_a_large_language_and_a_bad_name = refl

pub look_gdb_slot_before_shortcut : GdbPrints file_8 (codes "name main") 8 (codes "index refused 45 48\n")
unfolding all_defs file_8
look_gdb_slot_before_shortcut = refl

pub look_gdb_name_0_and_vector_8 : GdbPrints file_9 (codes "name main") 8 (codes "index refused 46 3c\n")
unfolding all_defs file_9
look_gdb_name_0_and_vector_8 = refl

pub look_gdb_vector_of_a_far_unit : GdbPrints file_10 (codes "name main") 8 (codes "index refused 46 44\n")
unfolding all_defs file_10
look_gdb_vector_of_a_far_unit = refl

pub look_gdb_vector_of_no_unit : GdbPrints file_11 (codes "name main") 8 (codes "index refused 46 44\n")
unfolding all_defs file_11
look_gdb_vector_of_no_unit = refl

pub look_gdb_vector_of_too_many : GdbPrints file_12 (codes "name main") 8 (codes "index refused 46 44\n")
unfolding all_defs file_12
look_gdb_vector_of_too_many = refl

pub look_gdb_vector_of_very_many : GdbPrints file_13 (codes "name main") 8 (codes "index refused 46 44\n")
unfolding all_defs file_13
look_gdb_vector_of_very_many = refl

pub look_gdb_vector_past_the_pool : GdbPrints file_14 (codes "name main") 8 (codes "index refused 46 44\n")
unfolding all_defs file_14
look_gdb_vector_past_the_pool = refl

pub look_gdb9_lost_slot : GdbPrints file_15 (codes "name main") 8 (codes "index refused 47 40\n")
unfolding all_defs file_15
look_gdb9_lost_slot = refl

pub look_gdb_lost_slot : GdbPrints file_16 (codes "name main") 8 (codes "index refused 47 3c\n")
unfolding all_defs file_16
look_gdb_lost_slot = refl

pub look_gdb_same_name_in_both_slots : GdbPrints file_17 (codes "name main") 8 (codes "index refused 47 3c\n")
unfolding all_defs file_17
look_gdb_same_name_in_both_slots = refl
