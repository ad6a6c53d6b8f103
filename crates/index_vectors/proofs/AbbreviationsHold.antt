-- Written by tools/gen_vectors.py; not to be changed by hand.
-- Each row of Abbreviations, by computation.
use Rattle.std.proofs.Common.{refl}
use Rattle.std.specs.Prelude.{codes}
use Rattle.index_vectors.specs.Says.{Prints}
use Rattle.index_vectors.specs.Abbreviations.{file_0, file_1, file_2, file_3, file_4, file_5, file_6, file_7, file_8}
use Rattle.index_vectors.proofs.Opened.{all_defs}

pub abbreviations_bytes_after_code_0 : Prints file_0 (codes "name main") 0 (codes "found 1\n0 1e 2e function global name main\n")
unfolding all_defs file_0
abbreviations_bytes_after_code_0 = refl

pub abbreviations_children_flag_2 : Prints file_1 (codes "name main") 0 (codes "found 1\n0 1e 2e function global name main\n")
unfolding all_defs file_1
abbreviations_children_flag_2 = refl

pub abbreviations_equal_codes_first_counts : Prints file_2 (codes "name main") 0 (codes "found 1\n0 1e 2e function global name main\n")
unfolding all_defs file_2
abbreviations_equal_codes_first_counts = refl

pub abbreviations_largest_code : Prints file_3 (codes "name main") 0 (codes "found 1\n0 1e 2e function global name main\n")
unfolding all_defs file_3
abbreviations_largest_code = refl

pub abbreviations_largest_constant : Prints file_4 (codes "name main") 0 (codes "found 1\n0 1e 2e function global name main\n")
unfolding all_defs file_4
abbreviations_largest_constant = refl

pub abbreviations_least_constant : Prints file_5 (codes "name main") 0 (codes "found 1\n0 1e 2e function global name main\n")
unfolding all_defs file_5
abbreviations_least_constant = refl

pub abbreviations_padded_constant : Prints file_6 (codes "name main") 0 (codes "found 1\n0 1e 2e function global name main\n")
unfolding all_defs file_6
abbreviations_padded_constant = refl

pub abbreviations_padded_everywhere : Prints file_7 (codes "name main") 0 (codes "found 1\n0 1e 2e function global name main\n")
unfolding all_defs file_7
abbreviations_padded_everywhere = refl

pub abbreviations_unused_unknown_form : Prints file_8 (codes "name main") 0 (codes "found 1\n0 1e 2e function global name main\n")
unfolding all_defs file_8
abbreviations_unused_unknown_form = refl
