-- Written by tools/gen_vectors.py; not to be changed by hand.
-- Each row of Units, by computation.
use Rattle.std.proofs.Common.{refl}
use Rattle.std.specs.Prelude.{codes}
use Rattle.index_vectors.specs.Says.{Prints}
use Rattle.index_vectors.specs.Units.{file_0, file_1, file_2, file_3, file_4, file_5, file_6, file_7, file_8}
use Rattle.index_vectors.proofs.Opened.{all_defs}

pub unit_of_version_2 : Prints file_0 (codes "name main") 0 (codes "found 1\n0 1d 2e function global name main\n")
unfolding all_defs file_0
unit_of_version_2 = refl

pub unit_of_version_2_address : Prints file_0 (codes "addr 101f") 0 (codes "unit 0\n")
unfolding all_defs file_0
unit_of_version_2_address = refl

pub unit_of_version_3 : Prints file_1 (codes "name main") 0 (codes "found 1\n0 1d 2e function global name main\n")
unfolding all_defs file_1
unit_of_version_3 = refl

pub unit_of_version_3_address : Prints file_1 (codes "addr 101f") 0 (codes "unit 0\n")
unfolding all_defs file_1
unit_of_version_3_address = refl

pub unit_of_version_4 : Prints file_2 (codes "name main") 0 (codes "found 1\n0 1d 2e function global name main\n")
unfolding all_defs file_2
unit_of_version_4 = refl

pub unit_of_64_bit_format : Prints file_3 (codes "name main") 0 (codes "found 1\n0 2a 2e function global name main\n")
unfolding all_defs file_3
unit_of_64_bit_format = refl

pub debug_info_byte_06_made_03 : Prints file_4 (codes "name main") 0 (codes "found 1\n0 1e 2e function global name main\n")
unfolding all_defs file_4
debug_info_byte_06_made_03 = refl

pub type_unit_header : Prints file_5 (codes "name main") 0 (codes "found 1\n0 2a 2e function global name main\n")
unfolding all_defs file_5
type_unit_header = refl

pub skeleton_unit : Prints file_6 (codes "name main") 0 (codes "found 1\n0 26 2e function global name main\n")
unfolding all_defs file_6
skeleton_unit = refl

pub header_alone : Prints file_7 (codes "name main") 0 (codes "found 0\n")
unfolding all_defs file_7
header_alone = refl

pub header_and_zeros : Prints file_8 (codes "name main") 0 (codes "found 0\n")
unfolding all_defs file_8
header_and_zeros = refl
