-- Written by tools/gen_vectors.py; not to be changed by hand.
-- Each row of FormFaults, by computation.
use Rattle.std.proofs.Common.{refl}
use Rattle.std.specs.Prelude.{codes}
use Rattle.index_vectors.specs.Says.{Prints}
use Rattle.index_vectors.specs.FormFaults.{file_0, file_1, file_2, file_3, file_4, file_5, file_6, file_7, file_8, file_9, file_10, file_11, file_12, file_13, file_14}
use Rattle.index_vectors.proofs.Opened.{all_defs}

pub debug_abbrev_byte_04_made_02 : Prints file_0 (codes "name main") 1 (codes "refused 12 c\n")
unfolding all_defs file_0
debug_abbrev_byte_04_made_02 = refl

pub debug_abbrev_byte_04_made_1c : Prints file_1 (codes "name main") 1 (codes "refused 18 c\n")
unfolding all_defs file_1
debug_abbrev_byte_04_made_1c = refl

pub form_gnu_addr_index : Prints file_2 (codes "name main") 1 (codes "refused 12 1e\n")
unfolding all_defs file_2
form_gnu_addr_index = refl

pub form_gnu_ref_alt : Prints file_3 (codes "name main") 1 (codes "refused 12 1e\n")
unfolding all_defs file_3
form_gnu_ref_alt = refl

pub form_of_number_0 : Prints file_4 (codes "name main") 1 (codes "refused 12 1e\n")
unfolding all_defs file_4
form_of_number_0 = refl

pub form_of_number_2 : Prints file_5 (codes "name main") 1 (codes "refused 12 1e\n")
unfolding all_defs file_5
form_of_number_2 = refl

pub form_of_number_2d : Prints file_6 (codes "name main") 1 (codes "refused 12 1e\n")
unfolding all_defs file_6
form_of_number_2d = refl

pub form_indirect_unknown : Prints file_7 (codes "name main") 1 (codes "refused 12 1e\n")
unfolding all_defs file_7
form_indirect_unknown = refl

pub form_indirect_implicit_const : Prints file_8 (codes "name main") 1 (codes "refused 12 1e\n")
unfolding all_defs file_8
form_indirect_implicit_const = refl

pub indirect_of_indirect : Prints file_9 (codes "name main") 1 (codes "refused 12 1e\n")
unfolding all_defs file_9
indirect_of_indirect = refl

pub form_unknown_before_a_cut_one : Prints file_10 (codes "name main") 1 (codes "refused 12 1e\n")
unfolding all_defs file_10
form_unknown_before_a_cut_one = refl

pub form_strp_sup : Prints file_11 (codes "name main") 1 (codes "refused 18 1e\n")
unfolding all_defs file_11
form_strp_sup = refl

pub form_ref_sup4 : Prints file_12 (codes "name main") 1 (codes "refused 18 1e\n")
unfolding all_defs file_12
form_ref_sup4 = refl

pub form_ref_sup8 : Prints file_13 (codes "name main") 1 (codes "refused 18 1e\n")
unfolding all_defs file_13
form_ref_sup8 = refl

pub form_indirect_supplementary : Prints file_14 (codes "name main") 1 (codes "refused 18 1e\n")
unfolding all_defs file_14
form_indirect_supplementary = refl
