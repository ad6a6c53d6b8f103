-- Written by tools/gen_vectors.py; not to be changed by hand.
-- Each row of Languages, by computation.
use Rattle.std.proofs.Common.{refl}
use Rattle.std.specs.Prelude.{codes}
use Rattle.index_vectors.specs.Says.{Prints}
use Rattle.index_vectors.specs.Languages.{file_0, file_1, file_2, file_3, file_4, file_5, file_6, file_7, file_8, file_9, file_10, file_11, file_12, file_13, file_14, file_15, file_16, file_17}
use Rattle.index_vectors.proofs.Opened.{all_defs}

pub partial_unit_of_an_importer_1_workers : Prints file_0 (codes "name p.q") 0 (codes "found 1\n0 d 2e function global name p.q\n")
unfolding all_defs file_0
partial_unit_of_an_importer_1_workers = refl

pub partial_unit_compile_unit_isnt_partial : Prints file_1 (codes "name a.b") 0 (codes "found 0\n")
unfolding all_defs file_1
partial_unit_compile_unit_isnt_partial = refl

pub partial_unit_first_importer_counts : Prints file_2 (codes "name a.b") 0 (codes "found 1\n0 d 2e function global name a.b\n")
unfolding all_defs file_2
partial_unit_first_importer_counts = refl

pub partial_unit_second_importer_doesnt_count : Prints file_3 (codes "name a.b") 0 (codes "found 0\n")
unfolding all_defs file_3
partial_unit_second_importer_doesnt_count = refl

pub partial_unit_import_of_no_root : Prints file_4 (codes "name a.b") 0 (codes "found 0\n")
unfolding all_defs file_4
partial_unit_import_of_no_root = refl

pub partial_unit_import_past_the_section : Prints file_5 (codes "name a.b") 0 (codes "found 0\n")
unfolding all_defs file_5
partial_unit_import_past_the_section = refl

pub partial_unit_imported_by_ada : Prints file_6 (codes "name a.b") 0 (codes "found 1\n0 d 2e function global name a.b\n")
unfolding all_defs file_6
partial_unit_imported_by_ada = refl

pub partial_unit_importer_without_a_language_doesnt_count : Prints file_7 (codes "name a.b") 0 (codes "found 1\n0 d 2e function global name a.b\n")
unfolding all_defs file_7
partial_unit_importer_without_a_language_doesnt_count = refl

pub partial_unit_own_language_0_counts : Prints file_8 (codes "name a.b") 0 (codes "found 0\n")
unfolding all_defs file_8
partial_unit_own_language_0_counts = refl

pub partial_unit_own_language_counts : Prints file_9 (codes "name a.b") 0 (codes "found 0\n")
unfolding all_defs file_9
partial_unit_own_language_counts = refl

pub partial_unit_without_an_importer : Prints file_10 (codes "name p__q") 0 (codes "found 1\n0 d 2e function static name p__q\n")
unfolding all_defs file_10
partial_unit_without_an_importer = refl

pub nested_in_a_partial_unit_1_workers : Prints file_0 (codes "name in") 0 (codes "found 1\n0 1f 2e function global name in\n")
unfolding all_defs file_0
nested_in_a_partial_unit_1_workers = refl

pub nested_without_an_importer : Prints file_10 (codes "name in") 0 (codes "found 0\n")
unfolding all_defs file_10
nested_without_an_importer = refl

pub language_above_65535 : Prints file_11 (codes "main") 0 (codes "none\n")
unfolding all_defs file_11
language_above_65535 = refl

pub main_by_calling_convention : Prints file_12 (codes "main") 0 (codes "main e p\n")
unfolding all_defs file_12
main_by_calling_convention = refl

pub main_in_a_namespace_isnt_main : Prints file_13 (codes "main") 0 (codes "none\n")
unfolding all_defs file_13
main_in_a_namespace_isnt_main = refl

pub main_mark_before_the_name_main : Prints file_14 (codes "main") 0 (codes "main 22 start\n")
unfolding all_defs file_14
main_mark_before_the_name_main = refl

pub main_of_a_plain_language_isnt_main : Prints file_15 (codes "main") 0 (codes "none\n")
unfolding all_defs file_15
main_of_a_plain_language_isnt_main = refl

pub main_without_a_language : Prints file_16 (codes "main") 0 (codes "none\n")
unfolding all_defs file_16
main_without_a_language = refl

pub static_main_isnt_main : Prints file_17 (codes "main") 0 (codes "none\n")
unfolding all_defs file_17
static_main_isnt_main = refl
