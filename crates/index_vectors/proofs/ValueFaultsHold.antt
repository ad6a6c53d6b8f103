-- Written by tools/gen_vectors.py; not to be changed by hand.
-- Each row of ValueFaults, by computation.
use Rattle.std.proofs.Common.{refl}
use Rattle.std.specs.Prelude.{codes}
use Rattle.index_vectors.specs.Says.{Prints}
use Rattle.index_vectors.specs.ValueFaults.{file_0, file_1, file_2, file_3, file_4, file_5, file_6, file_7, file_8}
use Rattle.index_vectors.proofs.Opened.{all_defs}

pub form_block1_past_the_unit : Prints file_0 (codes "name main") 1 (codes "refused 11 1e\n")
unfolding all_defs file_0
form_block1_past_the_unit = refl

pub form_block4_past_the_unit : Prints file_1 (codes "name main") 1 (codes "refused 11 1e\n")
unfolding all_defs file_1
form_block4_past_the_unit = refl

pub form_block_past_the_unit : Prints file_2 (codes "name main") 1 (codes "refused 11 1e\n")
unfolding all_defs file_2
form_block_past_the_unit = refl

pub form_exprloc_too_large : Prints file_3 (codes "name main") 1 (codes "refused 11 1e\n")
unfolding all_defs file_3
form_exprloc_too_large = refl

pub form_indirect_too_large : Prints file_4 (codes "name main") 1 (codes "refused 11 1e\n")
unfolding all_defs file_4
form_indirect_too_large = refl

pub form_sdata_too_large : Prints file_5 (codes "name main") 1 (codes "refused 11 1e\n")
unfolding all_defs file_5
form_sdata_too_large = refl

pub form_udata_too_large : Prints file_6 (codes "name main") 1 (codes "refused 11 1e\n")
unfolding all_defs file_6
form_udata_too_large = refl

pub form_string_without_an_end : Prints file_7 (codes "name main") 1 (codes "refused 11 1e\n")
unfolding all_defs file_7
form_string_without_an_end = refl

pub form_unknown_after_a_cut_one : Prints file_8 (codes "name main") 1 (codes "refused 11 1e\n")
unfolding all_defs file_8
form_unknown_after_a_cut_one = refl
