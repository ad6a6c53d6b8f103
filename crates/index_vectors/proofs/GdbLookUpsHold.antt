-- Written by tools/gen_vectors.py; not to be changed by hand.
-- Each row of GdbLookUps, by computation.
use Rattle.std.proofs.Common.{refl}
use Rattle.std.specs.Prelude.{codes}
use Rattle.index_vectors.specs.Says.{GdbOffersNot, GdbPrints}
use Rattle.index_vectors.specs.GdbLookUps.{file_0, file_1, file_2, file_3, file_4, file_5, file_6, file_7, file_8, file_9, file_10, file_11, file_12, file_13, file_14, file_15, file_16, file_17, file_18, file_19}
use Rattle.index_vectors.proofs.Opened.{all_defs}

pub look_gdb8_address_inside : GdbPrints file_0 (codes "addr 101f") 0 (codes "unit 0\n")
unfolding all_defs file_0
look_gdb8_address_inside = refl

pub look_gdb8_address_past : GdbPrints file_0 (codes "addr 1020") 0 (codes "none\n")
unfolding all_defs file_0
look_gdb8_address_past = refl

pub look_gdb8_main : GdbPrints file_0 (codes "main") 0 (codes "none\n")
unfolding all_defs file_0
look_gdb8_main = refl

pub look_gdb8_name : GdbPrints file_0 (codes "name main") 0 (codes "found 1\n0 function global main\n")
unfolding all_defs file_0
look_gdb8_name = refl

pub look_gdb8_name_of_other_case : GdbPrints file_0 (codes "name Main") 0 (codes "found 0\n")
unfolding all_defs file_0
look_gdb8_name_of_other_case = refl

pub look_gdb9_address_inside : GdbPrints file_1 (codes "addr 101f") 0 (codes "unit 0\n")
unfolding all_defs file_1
look_gdb9_address_inside = refl

pub look_gdb9_address_past : GdbPrints file_1 (codes "addr 1020") 0 (codes "none\n")
unfolding all_defs file_1
look_gdb9_address_past = refl

pub look_gdb9_main : GdbPrints file_1 (codes "main") 0 (codes "main c main\n")
unfolding all_defs file_1
look_gdb9_main = refl

pub look_gdb9_name : GdbPrints file_1 (codes "name main") 0 (codes "found 1\n0 function global main\n")
unfolding all_defs file_1
look_gdb9_name = refl

pub look_gdb9_name_of_other_case : GdbPrints file_1 (codes "name Main") 0 (codes "found 0\n")
unfolding all_defs file_1
look_gdb9_name_of_other_case = refl

pub look_gdb_address_entry_that_ends_before_it_begins : GdbPrints file_2 (codes "addr 1008") 0 (codes "none\n")
unfolding all_defs file_2
look_gdb_address_entry_that_ends_before_it_begins = refl

pub look_gdb_bits_24_to_27_are_ignored : GdbPrints file_3 (codes "name main") 0 (codes "found 1\n0 function global main\n")
unfolding all_defs file_3
look_gdb_bits_24_to_27_are_ignored = refl

pub look_gdb_gap_after_the_header : GdbPrints file_4 (codes "name main") 0 (codes "found 1\n0 function global main\n")
unfolding all_defs file_4
look_gdb_gap_after_the_header = refl

pub look_gdb_kind_0 : GdbPrints file_5 (codes "name main") 0 (codes "found 1\n0 kind0 static main\n")
unfolding all_defs file_5
look_gdb_kind_0 = refl

pub look_gdb_kind_1 : GdbPrints file_6 (codes "name main") 0 (codes "found 1\n0 type static main\n")
unfolding all_defs file_6
look_gdb_kind_1 = refl

pub look_gdb_kind_2 : GdbPrints file_7 (codes "name main") 0 (codes "found 1\n0 variable static main\n")
unfolding all_defs file_7
look_gdb_kind_2 = refl

pub look_gdb_kind_4 : GdbPrints file_8 (codes "name main") 0 (codes "found 1\n0 other static main\n")
unfolding all_defs file_8
look_gdb_kind_4 = refl

pub look_gdb_kind_5 : GdbPrints file_9 (codes "name main") 0 (codes "found 1\n0 kind5 static main\n")
unfolding all_defs file_9
look_gdb_kind_5 = refl

pub look_gdb_kind_6 : GdbPrints file_10 (codes "name main") 0 (codes "found 1\n0 kind6 static main\n")
unfolding all_defs file_10
look_gdb_kind_6 = refl

pub look_gdb_kind_7 : GdbPrints file_11 (codes "name main") 0 (codes "found 1\n0 kind7 static main\n")
unfolding all_defs file_11
look_gdb_kind_7 = refl

pub look_gdb_over_nothing_address : GdbPrints file_12 (codes "addr 101f") 0 (codes "unit 0\n")
unfolding all_defs file_12
look_gdb_over_nothing_address = refl

pub look_gdb_over_nothing_main : GdbPrints file_13 (codes "main") 0 (codes "none\n")
unfolding all_defs file_13
look_gdb_over_nothing_main = refl

pub look_gdb_over_nothing_name : GdbPrints file_12 (codes "name main") 0 (codes "found 0\n")
unfolding all_defs file_12
look_gdb_over_nothing_name = refl

pub look_gdb_second_address_entry : GdbPrints file_14 (codes "addr 2fff") 0 (codes "unit 0\n")
unfolding all_defs file_14
look_gdb_second_address_entry = refl

pub look_gdb_shortcut_area_of_12_bytes : GdbPrints file_15 (codes "main") 0 (codes "main c main\n")
unfolding all_defs file_15
look_gdb_shortcut_area_of_12_bytes = refl

pub look_gdb_shortcut_of_a_large_language : GdbPrints file_16 (codes "main") 0 (codes "none\n")
unfolding all_defs file_16
look_gdb_shortcut_of_a_large_language = refl

pub look_gdb_shortcut_of_language_0 : GdbPrints file_17 (codes "main") 0 (codes "none\n")
unfolding all_defs file_17
look_gdb_shortcut_of_language_0 = refl

pub look_gdb_shortcut_of_language_ffff : GdbPrints file_18 (codes "main") 0 (codes "main ffff main\n")
unfolding all_defs file_18
look_gdb_shortcut_of_language_ffff = refl

pub look_gdb_table_of_one_slot_name : GdbPrints file_19 (codes "name main") 0 (codes "found 1\n0 function global main\n")
unfolding all_defs file_19
look_gdb_table_of_one_slot_name = refl

pub look_gdb_table_of_one_slot_other_name : GdbPrints file_19 (codes "name x") 0 (codes "found 0\n")
unfolding all_defs file_19
look_gdb_table_of_one_slot_other_name = refl

pub look_gdb_cache_isnt_offered : GdbOffersNot file_0 (codes "cache")
unfolding all_defs file_0
look_gdb_cache_isnt_offered = refl

pub look_gdb_simple_isnt_offered : GdbOffersNot file_0 (codes "simple main")
unfolding all_defs file_0
look_gdb_simple_isnt_offered = refl
