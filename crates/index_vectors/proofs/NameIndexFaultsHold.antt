-- Written by tools/gen_vectors.py; not to be changed by hand.
-- Each row of NameIndexFaults, by computation.
use Rattle.std.proofs.Common.{refl}
use Rattle.std.specs.Prelude.{codes}
use Rattle.index_vectors.specs.Says.{NamesPrint}
use Rattle.index_vectors.specs.NameIndexFaults.{file_0, file_1, file_2, file_3, file_4, file_5, file_6, file_7, file_8, file_9, file_10, file_11, file_12, file_13, file_14, file_15, file_16, file_17, file_18, file_19, file_20, file_21, file_22, file_23, file_24, file_25, file_26, file_27, file_28, file_29, file_30, file_31, file_32, file_33, file_34, file_35, file_36, file_37, file_38, file_39, file_40}
use Rattle.index_vectors.proofs.Opened.{all_defs}

pub name_index_cut_to_3 : NamesPrint file_0 file_1 0 (codes "name main") 8 (codes "index refused 50 0\n")
unfolding all_defs file_0 file_1
name_index_cut_to_3 = refl

pub name_index_cut_to_71 : NamesPrint file_2 file_1 0 (codes "name main") 8 (codes "index refused 50 0\n")
unfolding all_defs file_2 file_1
name_index_cut_to_71 = refl

pub look_names_bytes_after_the_index : NamesPrint file_3 file_1 0 (codes "name main") 8 (codes "index refused 50 0\n")
unfolding all_defs file_3 file_1
look_names_bytes_after_the_index = refl

pub look_names_empty_file : NamesPrint file_4 file_1 0 (codes "name main") 8 (codes "index refused 50 0\n")
unfolding all_defs file_4 file_1
look_names_empty_file = refl

pub look_names_reserved_length : NamesPrint file_5 file_1 0 (codes "name main") 8 (codes "index refused 50 0\n")
unfolding all_defs file_5 file_1
look_names_reserved_length = refl

pub name_index_cut_to_4_length_mended : NamesPrint file_6 file_1 0 (codes "name main") 8 (codes "index refused 51 4\n")
unfolding all_defs file_6 file_1
name_index_cut_to_4_length_mended = refl

pub look_names_version_4 : NamesPrint file_7 file_1 0 (codes "name main") 8 (codes "index refused 51 4\n")
unfolding all_defs file_7 file_1
look_names_version_4 = refl

pub look_names_wide_version_cut : NamesPrint file_8 file_1 0 (codes "name main") 8 (codes "index refused 51 c\n")
unfolding all_defs file_8 file_1
look_names_wide_version_cut = refl

pub name_index_cut_to_6_length_mended : NamesPrint file_9 file_1 0 (codes "name main") 8 (codes "index refused 52 8\n")
unfolding all_defs file_9 file_1
name_index_cut_to_6_length_mended = refl

pub name_index_cut_to_64_length_mended : NamesPrint file_10 file_1 0 (codes "name main") 8 (codes "index refused 52 8\n")
unfolding all_defs file_10 file_1
name_index_cut_to_64_length_mended = refl

pub look_names_too_large_abbreviations : NamesPrint file_11 file_1 0 (codes "name main") 8 (codes "index refused 52 8\n")
unfolding all_defs file_11 file_1
look_names_too_large_abbreviations = refl

pub look_names_too_many_names : NamesPrint file_12 file_1 0 (codes "name main") 8 (codes "index refused 52 8\n")
unfolding all_defs file_12 file_1
look_names_too_many_names = refl

pub look_names_too_many_units : NamesPrint file_13 file_1 0 (codes "name main") 8 (codes "index refused 52 8\n")
unfolding all_defs file_13 file_1
look_names_too_many_units = refl

pub look_names_wide_counts_cut : NamesPrint file_14 file_1 0 (codes "name main") 8 (codes "index refused 52 10\n")
unfolding all_defs file_14 file_1
look_names_wide_counts_cut = refl

pub look_names_abbreviation_cut : NamesPrint file_15 file_1 0 (codes "name main") 8 (codes "index refused 53 38\n")
unfolding all_defs file_15 file_1
look_names_abbreviation_cut = refl

pub look_names_abbreviation_of_another_form : NamesPrint file_16 file_1 0 (codes "name main") 8 (codes "index refused 53 38\n")
unfolding all_defs file_16 file_1
look_names_abbreviation_of_another_form = refl

pub look_names_abbreviations_of_no_bytes : NamesPrint file_17 file_1 0 (codes "name main") 8 (codes "index refused 53 30\n")
unfolding all_defs file_17 file_1
look_names_abbreviations_of_no_bytes = refl

pub look_names_abbreviations_without_code_0 : NamesPrint file_18 file_1 0 (codes "name main") 8 (codes "index refused 53 40\n")
unfolding all_defs file_18 file_1
look_names_abbreviations_without_code_0 = refl

pub look_names_bucket_0 : NamesPrint file_19 file_1 0 (codes "name main") 8 (codes "index refused 54 2c\n")
unfolding all_defs file_19 file_1
look_names_bucket_0 = refl

pub look_names_bucket_above_the_names : NamesPrint file_20 file_1 0 (codes "name main") 8 (codes "index refused 54 28\n")
unfolding all_defs file_20 file_1
look_names_bucket_above_the_names = refl

pub look_names_bucket_before_entry : NamesPrint file_21 file_1 0 (codes "name main") 8 (codes "index refused 54 2c\n")
unfolding all_defs file_21 file_1
look_names_bucket_before_entry = refl

pub look_names_hash_before_bucket : NamesPrint file_22 file_1 0 (codes "name main") 8 (codes "index refused 55 2c\n")
unfolding all_defs file_22 file_1
look_names_hash_before_bucket = refl

pub look_names_other_hash : NamesPrint file_23 file_1 0 (codes "name main") 8 (codes "index refused 55 2c\n")
unfolding all_defs file_23 file_1
look_names_other_hash = refl

pub look_names_string_at_the_end_of_the_strings : NamesPrint file_24 file_1 0 (codes "name main") 8 (codes "index refused 56 30\n")
unfolding all_defs file_24 file_1
look_names_string_at_the_end_of_the_strings = refl

pub look_names_string_before_hash : NamesPrint file_25 file_1 0 (codes "name main") 8 (codes "index refused 56 30\n")
unfolding all_defs file_25 file_1
look_names_string_before_hash = refl

pub look_names_string_below_the_base : NamesPrint file_26 file_1 1 (codes "name main") 8 (codes "index refused 56 30\n")
unfolding all_defs file_26 file_1
look_names_string_below_the_base = refl

pub look_names_string_past_the_strings : NamesPrint file_27 file_1 0 (codes "name main") 8 (codes "index refused 56 30\n")
unfolding all_defs file_27 file_1
look_names_string_past_the_strings = refl

pub name_index_cut_to_65_length_mended : NamesPrint file_28 file_1 0 (codes "name main") 8 (codes "index refused 57 41\n")
unfolding all_defs file_28 file_1
name_index_cut_to_65_length_mended = refl

pub name_index_cut_to_71_length_mended : NamesPrint file_29 file_1 0 (codes "name main") 8 (codes "index refused 57 47\n")
unfolding all_defs file_29 file_1
name_index_cut_to_71_length_mended = refl

pub look_names_entry_at_the_end_of_the_pool : NamesPrint file_30 file_1 0 (codes "name main") 8 (codes "index refused 57 48\n")
unfolding all_defs file_30 file_1
look_names_entry_at_the_end_of_the_pool = refl

pub look_names_entry_of_an_unknown_code : NamesPrint file_31 file_1 0 (codes "name main") 8 (codes "index refused 57 41\n")
unfolding all_defs file_31 file_1
look_names_entry_of_an_unknown_code = refl

pub look_names_entry_of_no_unit : NamesPrint file_32 file_1 0 (codes "name main") 8 (codes "index refused 57 41\n")
unfolding all_defs file_32 file_1
look_names_entry_of_no_unit = refl

pub look_names_entry_past_the_pool : NamesPrint file_33 file_1 0 (codes "name main") 8 (codes "index refused 57 34\n")
unfolding all_defs file_33 file_1
look_names_entry_past_the_pool = refl

pub look_names_offset_is_missing : NamesPrint file_34 file_1 0 (codes "name main") 8 (codes "index refused 57 37\n")
unfolding all_defs file_34 file_1
look_names_offset_is_missing = refl

pub look_names_offset_negative : NamesPrint file_35 file_1 0 (codes "name main") 8 (codes "index refused 57 37\n")
unfolding all_defs file_35 file_1
look_names_offset_negative = refl

pub look_names_offset_of_form_flag_present : NamesPrint file_36 file_1 0 (codes "name main") 8 (codes "index refused 57 37\n")
unfolding all_defs file_36 file_1
look_names_offset_of_form_flag_present = refl

pub look_names_second_entry_cut : NamesPrint file_37 file_1 0 (codes "name main") 8 (codes "index refused 57 3c\n")
unfolding all_defs file_37 file_1
look_names_second_entry_cut = refl

pub look_names_type_unit_of_no_unit : NamesPrint file_38 file_1 0 (codes "name main") 8 (codes "index refused 57 45\n")
unfolding all_defs file_38 file_1
look_names_type_unit_of_no_unit = refl

pub look_names_unit_isnt_named : NamesPrint file_39 file_1 0 (codes "name main") 8 (codes "index refused 57 3b\n")
unfolding all_defs file_39 file_1
look_names_unit_isnt_named = refl

pub look_names_unit_of_form_flag_present : NamesPrint file_40 file_1 0 (codes "name main") 8 (codes "index refused 57 39\n")
unfolding all_defs file_40 file_1
look_names_unit_of_form_flag_present = refl
