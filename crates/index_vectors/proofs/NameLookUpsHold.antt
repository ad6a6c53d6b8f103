-- Written by tools/gen_vectors.py; not to be changed by hand.
-- Each row of NameLookUps, by computation.
use Rattle.std.proofs.Common.{[], ◌∷◌, refl}
use Rattle.std.specs.Prelude.{codes}
use Rattle.index_vectors.specs.Says.{NamesPrint}
use Rattle.index_vectors.specs.NameLookUps.{file_0, file_1, file_2, file_3, file_4, file_5, file_6, file_7, file_8, file_9, file_10, file_11, file_12, file_13, file_14, file_15, file_16, file_17, file_18, file_19, file_20}
use Rattle.index_vectors.proofs.Opened.{all_defs}

pub look_names_base_0 : NamesPrint file_0 file_1 0 (codes "name main") 0 (codes "found 1\ncompile 0 1e 2e main\n")
unfolding all_defs file_0 file_1
look_names_base_0 = refl

pub look_names_entry_group_without_entries : NamesPrint file_2 file_1 0 (codes "name main") 0 (codes "found 0\n")
unfolding all_defs file_2 file_1
look_names_entry_group_without_entries = refl

pub look_names_first_of_two_equal_attributes : NamesPrint file_3 file_1 0 (codes "name main") 0 (codes "found 1\ncompile 0 1e 2e main\n")
unfolding all_defs file_3 file_1
look_names_first_of_two_equal_attributes = refl

pub look_names_first_of_two_equal_codes : NamesPrint file_4 file_1 0 (codes "name main") 0 (codes "found 1\ncompile 0 1e 2e main\n")
unfolding all_defs file_4 file_1
look_names_first_of_two_equal_codes = refl

pub look_names_foreign_type_unit : NamesPrint file_5 file_1 0 (codes "name main") 0 (codes "found 1\nforeign 0 1e 13 main\n")
unfolding all_defs file_5 file_1
look_names_foreign_type_unit = refl

pub look_names_local_type_unit : NamesPrint file_6 file_1 0 (codes "name main") 0 (codes "found 1\ntype 0 1e 13 main\n")
unfolding all_defs file_6 file_1
look_names_local_type_unit = refl

pub look_names_name : NamesPrint file_0 file_1 0 (codes "name main") 0 (codes "found 1\ncompile 0 1e 2e main\n")
unfolding all_defs file_0 file_1
look_names_name = refl

pub look_names_name_with_a_byte_from_80_on_has_any_hash : NamesPrint file_7 file_8 0 (110 ∷ 97 ∷ 109 ∷ 101 ∷ 32 ∷ 195 ∷ 169 ∷ 120 ∷ []) 0 (102 ∷ 111 ∷ 117 ∷ 110 ∷ 100 ∷ 32 ∷ 49 ∷ 10 ∷ 99 ∷ 111 ∷ 109 ∷ 112 ∷ 105 ∷ 108 ∷ 101 ∷ 32 ∷ 48 ∷ 32 ∷ 49 ∷ 101 ∷ 32 ∷ 50 ∷ 101 ∷ 32 ∷ 195 ∷ 169 ∷ 120 ∷ 10 ∷ [])
unfolding all_defs file_7 file_8
look_names_name_with_a_byte_from_80_on_has_any_hash = refl

pub look_names_offset_in_a_flag : NamesPrint file_9 file_1 0 (codes "name main") 0 (codes "found 1\ncompile 0 1e 2e main\n")
unfolding all_defs file_9 file_1
look_names_offset_in_a_flag = refl

pub look_names_offset_in_sdata : NamesPrint file_10 file_1 0 (codes "name main") 0 (codes "found 1\ncompile 0 1e 2e main\n")
unfolding all_defs file_10 file_1
look_names_offset_in_sdata = refl

pub look_names_other_name : NamesPrint file_0 file_1 0 (codes "name Main") 0 (codes "found 0\n")
unfolding all_defs file_0 file_1
look_names_other_name = refl

pub look_names_over_nothing : NamesPrint file_11 file_12 0 (codes "name main") 0 (codes "found 0\n")
unfolding all_defs file_11 file_12
look_names_over_nothing = refl

pub look_names_padding_isnt_looked_at : NamesPrint file_13 file_1 0 (codes "name main") 0 (codes "found 1\ncompile 0 1e 2e main\n")
unfolding all_defs file_13 file_1
look_names_padding_isnt_looked_at = refl

pub look_names_parent_and_hash_are_skipped : NamesPrint file_14 file_1 0 (codes "name main") 0 (codes "found 1\ncompile 0 1e 2e main\n")
unfolding all_defs file_14 file_1
look_names_parent_and_hash_are_skipped = refl

pub look_names_string_from_the_base_on : NamesPrint file_15 file_1 100 (codes "name main") 0 (codes "found 1\ncompile 0 1e 2e main\n")
unfolding all_defs file_15 file_1
look_names_string_from_the_base_on = refl

pub look_names_two_entries_of_one_name : NamesPrint file_16 file_1 0 (codes "name main") 0 (codes "found 2\ncompile 0 1e 2e main\ncompile 0 2a 24 main\n")
unfolding all_defs file_16 file_1
look_names_two_entries_of_one_name = refl

pub look_names_type_unit_counts_before_compile_unit : NamesPrint file_17 file_1 0 (codes "name main") 0 (codes "found 1\ntype 0 1e 13 main\n")
unfolding all_defs file_17 file_1
look_names_type_unit_counts_before_compile_unit = refl

pub look_names_unit_of_one_unit : NamesPrint file_18 file_1 0 (codes "name main") 0 (codes "found 1\ncompile 0 1e 2e main\n")
unfolding all_defs file_18 file_1
look_names_unit_of_one_unit = refl

pub look_names_wide_format : NamesPrint file_19 file_1 0 (codes "name main") 0 (codes "found 1\ncompile 0 1e 2e main\n")
unfolding all_defs file_19 file_1
look_names_wide_format = refl

pub look_names_without_hashes : NamesPrint file_20 file_1 0 (codes "name main") 0 (codes "found 1\ncompile 0 1e 2e main\n")
unfolding all_defs file_20 file_1
look_names_without_hashes = refl
