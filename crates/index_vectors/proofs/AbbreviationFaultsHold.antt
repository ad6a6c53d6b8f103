-- Written by tools/gen_vectors.py; not to be changed by hand.
-- Each row of AbbreviationFaults, by computation.
use Rattle.std.proofs.Common.{refl}
use Rattle.std.specs.Prelude.{codes}
use Rattle.index_vectors.specs.Says.{Prints}
use Rattle.index_vectors.specs.AbbreviationFaults.{file_0, file_1, file_2, file_3, file_4, file_5, file_6, file_7, file_8, file_9, file_10, file_11}
use Rattle.index_vectors.proofs.Opened.{all_defs}

pub abbreviations_code_too_large : Prints file_0 (codes "name main") 1 (codes "refused 10 0\n")
unfolding all_defs file_0
abbreviations_code_too_large = refl

pub abbreviations_tag_too_large : Prints file_1 (codes "name main") 1 (codes "refused 10 0\n")
unfolding all_defs file_1
abbreviations_tag_too_large = refl

pub abbreviations_form_too_large : Prints file_2 (codes "name main") 1 (codes "refused 10 0\n")
unfolding all_defs file_2
abbreviations_form_too_large = refl

pub abbreviations_constant_too_large : Prints file_3 (codes "name main") 1 (codes "refused 10 0\n")
unfolding all_defs file_3
abbreviations_constant_too_large = refl

pub abbreviations_constant_cut : Prints file_4 (codes "name main") 1 (codes "refused 10 0\n")
unfolding all_defs file_4
abbreviations_constant_cut = refl

pub abbreviations_cut_before_the_children_flag : Prints file_5 (codes "name main") 1 (codes "refused 10 0\n")
unfolding all_defs file_5
abbreviations_cut_before_the_children_flag = refl

pub abbreviations_cut_in_a_pair : Prints file_6 (codes "name main") 1 (codes "refused 10 0\n")
unfolding all_defs file_6
abbreviations_cut_in_a_pair = refl

pub abbreviations_without_code_0 : Prints file_7 (codes "name main") 1 (codes "refused 10 0\n")
unfolding all_defs file_7
abbreviations_without_code_0 = refl

pub debug_abbrev_byte_1a_made_01 : Prints file_8 (codes "name main") 1 (codes "refused 10 0\n")
unfolding all_defs file_8
debug_abbrev_byte_1a_made_01 = refl

pub debug_abbrev_without_bits : Prints file_9 (codes "name main") 1 (codes "refused 10 0\n")
unfolding all_defs file_9
debug_abbrev_without_bits = refl

pub header_abbreviations_at_the_end_of_their_section : Prints file_10 (codes "name main") 1 (codes "refused 10 0\n")
unfolding all_defs file_10
header_abbreviations_at_the_end_of_their_section = refl

pub header_abbreviations_past_their_section : Prints file_11 (codes "name main") 1 (codes "refused 10 0\n")
unfolding all_defs file_11
header_abbreviations_past_their_section = refl
