-- Written by tools/gen_vectors.py; not to be changed by hand.
-- Each row of EntryKinds, by computation.
use Rattle.std.proofs.Common.{refl}
use Rattle.std.specs.Prelude.{codes}
use Rattle.index_vectors.specs.Says.{Prints}
use Rattle.index_vectors.specs.EntryKinds.{file_0, file_1, file_2, file_3, file_4, file_5, file_6, file_7, file_8, file_9, file_10, file_11, file_12, file_13, file_14, file_15, file_16}
use Rattle.index_vectors.proofs.Opened.{all_defs}

pub tag_base_type_of_cpp : Prints file_0 (codes "name q") 0 (codes "found 1\n0 10 24 type static name q\n")
unfolding all_defs file_0
tag_base_type_of_cpp = refl

pub tag_imported_unit_isnt_indexed : Prints file_1 (codes "name q") 0 (codes "found 0\n")
unfolding all_defs file_1
tag_imported_unit_isnt_indexed = refl

pub tag_interface_type_of_cpp : Prints file_2 (codes "name q") 0 (codes "found 1\n0 10 38 type global name q\n")
unfolding all_defs file_2
tag_interface_type_of_cpp = refl

pub tag_lexical_block_isnt_indexed : Prints file_3 (codes "name q") 0 (codes "found 0\n")
unfolding all_defs file_3
tag_lexical_block_isnt_indexed = refl

pub tag_member_isnt_indexed : Prints file_4 (codes "name q") 0 (codes "found 0\n")
unfolding all_defs file_4
tag_member_isnt_indexed = refl

pub tag_namespace_of_cpp : Prints file_5 (codes "name q") 0 (codes "found 1\n0 10 39 type global name q\n")
unfolding all_defs file_5
tag_namespace_of_cpp = refl

pub tag_subrange_type_of_cpp : Prints file_6 (codes "name q") 0 (codes "found 1\n0 10 21 type static name q\n")
unfolding all_defs file_6
tag_subrange_type_of_cpp = refl

pub tag_typedef_of_cpp : Prints file_7 (codes "name q") 0 (codes "found 1\n0 10 16 type static name q\n")
unfolding all_defs file_7
tag_typedef_of_cpp = refl

pub tag_union_type_of_cpp : Prints file_8 (codes "name q") 0 (codes "found 1\n0 10 17 type global name q\n")
unfolding all_defs file_8
tag_union_type_of_cpp = refl

pub subprogram_with_entry_alone : Prints file_9 (codes "name main") 0 (codes "found 1\n0 1e 2e function static name main\n")
unfolding all_defs file_9
subprogram_with_entry_alone = refl

pub subprogram_with_entry_as_a_constant : Prints file_10 (codes "name main") 0 (codes "found 0\n")
unfolding all_defs file_10
subprogram_with_entry_as_a_constant = refl

pub subprogram_with_high_alone : Prints file_11 (codes "name main") 0 (codes "found 0\n")
unfolding all_defs file_11
subprogram_with_high_alone = refl

pub subprogram_with_low_alone : Prints file_12 (codes "name main") 0 (codes "found 1\n0 1e 2e function static name main\n")
unfolding all_defs file_12
subprogram_with_low_alone = refl

pub subprogram_without_an_address : Prints file_13 (codes "name main") 0 (codes "found 0\n")
unfolding all_defs file_13
subprogram_without_an_address = refl

pub variable_with_a_constant : Prints file_14 (codes "name q") 0 (codes "found 1\n0 10 34 variable static name q\n")
unfolding all_defs file_14
variable_with_a_constant = refl

pub variable_without_a_place : Prints file_15 (codes "name q") 0 (codes "found 0\n")
unfolding all_defs file_15
variable_without_a_place = refl

pub constant_with_a_place_alone : Prints file_16 (codes "name q") 0 (codes "found 0\n")
unfolding all_defs file_16
constant_with_a_place_alone = refl
