-- Written by tools/gen_vectors.py; not to be changed by hand.
-- Each row of DebugSectionFaults, by computation.
use Rattle.std.proofs.Common.{refl}
use Rattle.std.specs.Prelude.{codes}
use Rattle.index_vectors.specs.Says.{Prints}
use Rattle.index_vectors.specs.DebugSectionFaults.{file_0, file_1, file_2, file_3, file_4, file_5, file_6, file_7, file_8, file_9}
use Rattle.index_vectors.proofs.Opened.{all_defs}

pub damaged_table_before_compressed : Prints file_0 (codes "name main") 1 (codes "refused 3 3\n")
unfolding all_defs file_0
damaged_table_before_compressed = refl

pub compressed_debug_info : Prints file_1 (codes "name main") 1 (codes "refused 4 2\n")
unfolding all_defs file_1
compressed_debug_info = refl

pub compressed_abbreviations : Prints file_2 (codes "name main") 1 (codes "refused 4 1\n")
unfolding all_defs file_2
compressed_abbreviations = refl

pub compressed_abbreviations_and_info : Prints file_3 (codes "name main") 1 (codes "refused 4 1\n")
unfolding all_defs file_3
compressed_abbreviations_and_info = refl

pub zdebug_section : Prints file_4 (codes "name main") 1 (codes "refused 4 3\n")
unfolding all_defs file_4
zdebug_section = refl

pub no_section_debug_info : Prints file_5 (codes "name main") 1 (codes "refused 5 0\n")
unfolding all_defs file_5
no_section_debug_info = refl

pub debug_info_empty : Prints file_6 (codes "name main") 1 (codes "refused 5 0\n")
unfolding all_defs file_6
debug_info_empty = refl

pub debug_info_of_size_0 : Prints file_7 (codes "name main") 1 (codes "refused 5 0\n")
unfolding all_defs file_7
debug_info_of_size_0 = refl

pub debug_info_of_type_0 : Prints file_8 (codes "name main") 1 (codes "refused 5 0\n")
unfolding all_defs file_8
debug_info_of_type_0 = refl

pub debug_info_without_bits : Prints file_9 (codes "name main") 1 (codes "refused 5 0\n")
unfolding all_defs file_9
debug_info_without_bits = refl
