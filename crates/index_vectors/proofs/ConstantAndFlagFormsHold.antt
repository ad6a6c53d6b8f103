-- Written by tools/gen_vectors.py; not to be changed by hand.
-- Each row of ConstantAndFlagForms, by computation.
use Rattle.std.proofs.Common.{refl}
use Rattle.std.specs.Prelude.{codes}
use Rattle.index_vectors.specs.Says.{Prints}
use Rattle.index_vectors.specs.ConstantAndFlagForms.{file_0, file_1, file_2, file_3, file_4, file_5, file_6, file_7, file_8, file_9, file_10, file_11}
use Rattle.index_vectors.proofs.Opened.{all_defs}

pub form_data1 : Prints file_0 (codes "name main") 0 (codes "found 1\n0 1e 2e function global name main\n")
unfolding all_defs file_0
form_data1 = refl

pub form_data16 : Prints file_1 (codes "name main") 0 (codes "found 1\n0 1e 2e function global name main\n")
unfolding all_defs file_1
form_data16 = refl

pub form_data2 : Prints file_2 (codes "name main") 0 (codes "found 1\n0 1e 2e function global name main\n")
unfolding all_defs file_2
form_data2 = refl

pub form_data4 : Prints file_3 (codes "name main") 0 (codes "found 1\n0 1e 2e function global name main\n")
unfolding all_defs file_3
form_data4 = refl

pub form_data8 : Prints file_4 (codes "name main") 0 (codes "found 1\n0 1e 2e function global name main\n")
unfolding all_defs file_4
form_data8 = refl

pub form_exprloc : Prints file_5 (codes "name main") 0 (codes "found 1\n0 1e 2e function global name main\n")
unfolding all_defs file_5
form_exprloc = refl

pub form_flag : Prints file_6 (codes "name main") 0 (codes "found 1\n0 1e 2e function global name main\n")
unfolding all_defs file_6
form_flag = refl

pub form_flag_present : Prints file_7 (codes "name main") 0 (codes "found 1\n0 1e 2e function global name main\n")
unfolding all_defs file_7
form_flag_present = refl

pub form_implicit_const : Prints file_8 (codes "name main") 0 (codes "found 1\n0 1e 2e function global name main\n")
unfolding all_defs file_8
form_implicit_const = refl

pub form_indirect_data4 : Prints file_9 (codes "name main") 0 (codes "found 1\n0 1e 2e function global name main\n")
unfolding all_defs file_9
form_indirect_data4 = refl

pub form_indirect_flag_present : Prints file_10 (codes "name main") 0 (codes "found 1\n0 1e 2e function global name main\n")
unfolding all_defs file_10
form_indirect_flag_present = refl

pub form_indirect_padded : Prints file_11 (codes "name main") 0 (codes "found 1\n0 1e 2e function global name main\n")
unfolding all_defs file_11
form_indirect_padded = refl
