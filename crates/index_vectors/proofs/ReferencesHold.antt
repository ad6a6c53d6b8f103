-- Written by tools/gen_vectors.py; not to be changed by hand.
-- Each row of References, by computation.
use Rattle.std.proofs.Common.{refl}
use Rattle.std.specs.Prelude.{codes}
use Rattle.index_vectors.specs.Says.{Prints}
use Rattle.index_vectors.specs.References.{file_0, file_1, file_2, file_3, file_4, file_5, file_6, file_7, file_8, file_9, file_10, file_11, file_12, file_13}
use Rattle.index_vectors.proofs.Opened.{all_defs}

pub chain_of_eight_hops : Prints file_0 (codes "name t") 0 (codes "found 1\n0 13 2e function static name t\n")
unfolding all_defs file_0
chain_of_eight_hops = refl

pub near_reference : Prints file_1 (codes "name t") 0 (codes "found 2\n0 10 16 type static name t\n1 24 2e function static name t\n")
unfolding all_defs file_1
near_reference = refl

pub references_of_version_2_have_8_bytes : Prints file_2 (codes "name t") 0 (codes "found 1\n0 11 2e function global name t\n")
unfolding all_defs file_2
references_of_version_2_have_8_bytes = refl

pub own_name_before_the_chains : Prints file_3 (codes "name N::own") 0 (codes "found 1\n0 10 2e function global name N::own\n")
unfolding all_defs file_3
own_name_before_the_chains = refl

pub specification_before_origin : Prints file_4 (codes "name b") 0 (codes "found 1\n0 10 2e function static name b\n")
unfolding all_defs file_4
specification_before_origin = refl

pub specification_in_a_data_form_is_absent : Prints file_5 (codes "name a") 0 (codes "found 1\n0 10 2e function static name a\n")
unfolding all_defs file_5
specification_in_a_data_form_is_absent = refl

pub specification_in_another_unit_1_workers : Prints file_6 (codes "name t") 0 (codes "found 1\n0 12 2e function global name t\n")
unfolding all_defs file_6
specification_in_another_unit_1_workers = refl

pub specification_of_the_root : Prints file_7 (codes "name x") 0 (codes "found 1\n0 10 2e function static name x\n")
unfolding all_defs file_7
specification_of_the_root = refl

pub member_isnt_followed : Prints file_8 (codes "name t") 0 (codes "found 1\n0 17 16 type static name t\n")
unfolding all_defs file_8
member_isnt_followed = refl

pub entry_in_a_subprogram_isnt_followed : Prints file_9 (codes "name t") 0 (codes "found 1\n0 1b 16 type static name t\n")
unfolding all_defs file_9
entry_in_a_subprogram_isnt_followed = refl

pub name_by_signature : Prints file_10 (codes "name S::m") 0 (codes "found 1\n0 19 2e function static name S::m\n")
unfolding all_defs file_10
name_by_signature = refl

pub name_by_signature_of_the_class : Prints file_10 (codes "name S") 0 (codes "found 2\n0 10 2 type global name S\n1 44 13 type global name S\n")
unfolding all_defs file_10
name_by_signature_of_the_class = refl

pub signature_of_no_unit : Prints file_11 (codes "name t") 0 (codes "found 1\n0 19 16 type static name t\n")
unfolding all_defs file_11
signature_of_no_unit = refl

pub signature_that_isnt_needed : Prints file_12 (codes "name N") 0 (codes "found 1\n0 10 2 type global name N\n")
unfolding all_defs file_12
signature_that_isnt_needed = refl

pub type_unit_without_a_name : Prints file_13 (codes "name m") 0 (codes "found 1\n0 19 2e function static name m\n")
unfolding all_defs file_13
type_unit_without_a_name = refl
