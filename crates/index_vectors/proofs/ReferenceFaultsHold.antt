-- Written by tools/gen_vectors.py; not to be changed by hand.
-- Each row of ReferenceFaults, by computation.
use Rattle.std.proofs.Common.{refl}
use Rattle.std.specs.Prelude.{codes}
use Rattle.index_vectors.specs.Says.{Prints}
use Rattle.index_vectors.specs.ReferenceFaults.{file_0, file_1, file_2, file_3, file_4, file_5, file_6, file_7, file_8, file_9, file_10, file_11}
use Rattle.index_vectors.proofs.Opened.{all_defs}

pub near_reference_past_the_unit : Prints file_0 (codes "name t") 1 (codes "refused 16 10\n")
unfolding all_defs file_0
near_reference_past_the_unit = refl

pub specification_inside_an_entry : Prints file_1 (codes "name t") 1 (codes "refused 16 12\n")
unfolding all_defs file_1
specification_inside_an_entry = refl

pub origin_inside_an_entry : Prints file_2 (codes "name f") 1 (codes "refused 16 13\n")
unfolding all_defs file_2
origin_inside_an_entry = refl

pub type_offset_inside_an_entry : Prints file_3 (codes "name S") 1 (codes "refused 16 10\n")
unfolding all_defs file_3
type_offset_inside_an_entry = refl

pub type_offset_past_the_unit : Prints file_4 (codes "name S") 1 (codes "refused 16 10\n")
unfolding all_defs file_4
type_offset_past_the_unit = refl

pub bad_chain_of_a_scope : Prints file_5 (codes "name m") 1 (codes "refused 16 10\n")
unfolding all_defs file_5
bad_chain_of_a_scope = refl

pub declaration_isnt_indexed_but_followed : Prints file_6 (codes "name d") 1 (codes "refused 16 10\n")
unfolding all_defs file_6
declaration_isnt_indexed_but_followed = refl

pub second_fault_of_a_later_unit : Prints file_7 (codes "name t") 1 (codes "refused 16 24\n")
unfolding all_defs file_7
second_fault_of_a_later_unit = refl

pub chain_of_nine_hops : Prints file_8 (codes "name t") 1 (codes "refused 17 13\n")
unfolding all_defs file_8
chain_of_nine_hops = refl

pub chain_that_goes_in_a_circle : Prints file_9 (codes "name f") 1 (codes "refused 17 13\n")
unfolding all_defs file_9
chain_that_goes_in_a_circle = refl

pub specifications_that_name_each_other : Prints file_10 (codes "name t") 1 (codes "refused 17 12\n")
unfolding all_defs file_10
specifications_that_name_each_other = refl

pub scopes_that_go_in_a_circle : Prints file_11 (codes "name a") 1 (codes "refused 17 10\n")
unfolding all_defs file_11
scopes_that_go_in_a_circle = refl
