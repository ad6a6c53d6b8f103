-- Written by tools/gen_vectors.py; not to be changed by hand.
-- Each row of HeaderFieldFaults, by computation.
use Rattle.std.proofs.Common.{refl}
use Rattle.std.specs.Prelude.{codes}
use Rattle.index_vectors.specs.Says.{Prints}
use Rattle.index_vectors.specs.HeaderFieldFaults.{file_0, file_1, file_2, file_3, file_4, file_5, file_6, file_7, file_8, file_9, file_10, file_11, file_12, file_13, file_14, file_15}
use Rattle.index_vectors.proofs.Opened.{all_defs}

pub header_version_0 : Prints file_0 (codes "name main") 1 (codes "refused 7 0\n")
unfolding all_defs file_0
header_version_0 = refl

pub unit_of_version_1 : Prints file_1 (codes "name main") 1 (codes "refused 7 0\n")
unfolding all_defs file_1
unit_of_version_1 = refl

pub unit_version_6 : Prints file_2 (codes "name main") 1 (codes "refused 7 0\n")
unfolding all_defs file_2
unit_version_6 = refl

pub header_version_6_before_unit_type : Prints file_3 (codes "name main") 1 (codes "refused 7 0\n")
unfolding all_defs file_3
header_version_6_before_unit_type = refl

pub type_unit_version_refused : Prints file_4 (codes "name main") 1 (codes "refused 7 31\n")
unfolding all_defs file_4
type_unit_version_refused = refl

pub header_cut_but_of_version_6 : Prints file_5 (codes "name main") 1 (codes "refused 7 0\n")
unfolding all_defs file_5
header_cut_but_of_version_6 = refl

pub header_unit_type_0 : Prints file_6 (codes "name main") 1 (codes "refused 8 0\n")
unfolding all_defs file_6
header_unit_type_0 = refl

pub header_unit_type_5 : Prints file_7 (codes "name main") 1 (codes "refused 8 0\n")
unfolding all_defs file_7
header_unit_type_5 = refl

pub header_unit_type_before_address_size : Prints file_8 (codes "name main") 1 (codes "refused 8 0\n")
unfolding all_defs file_8
header_unit_type_before_address_size = refl

pub header_cut_but_of_unit_type_7 : Prints file_9 (codes "name main") 1 (codes "refused 8 0\n")
unfolding all_defs file_9
header_cut_but_of_unit_type_7 = refl

pub header_address_size_4 : Prints file_10 (codes "name main") 1 (codes "refused 9 0\n")
unfolding all_defs file_10
header_address_size_4 = refl

pub header_version_4_address_size_4 : Prints file_11 (codes "name main") 1 (codes "refused 9 0\n")
unfolding all_defs file_11
header_version_4_address_size_4 = refl

pub debug_info_byte_04_made_04 : Prints file_12 (codes "name main") 1 (codes "refused 9 0\n")
unfolding all_defs file_12
debug_info_byte_04_made_04 = refl

pub debug_info_byte_07_made_0c : Prints file_13 (codes "name main") 1 (codes "refused 9 0\n")
unfolding all_defs file_13
debug_info_byte_07_made_0c = refl

pub second_unit_of_address_size_2 : Prints file_14 (codes "name main") 1 (codes "refused 9 31\n")
unfolding all_defs file_14
second_unit_of_address_size_2 = refl

pub header_cut_but_of_address_size_4 : Prints file_15 (codes "name main") 1 (codes "refused 9 0\n")
unfolding all_defs file_15
header_cut_but_of_address_size_4 = refl
