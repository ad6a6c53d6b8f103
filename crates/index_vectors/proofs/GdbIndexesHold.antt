-- Written by tools/gen_vectors.py; not to be changed by hand.
-- Each row of GdbIndexes, by computation.
use Rattle.std.proofs.Common.{refl}
use Rattle.index_vectors.specs.Says.{WritesGdb8, WritesGdb9}
use Rattle.index_vectors.specs.GdbIndexes.{file_0, file_1, file_2, file_3, file_4, file_5, file_6, file_7}
use Rattle.index_vectors.proofs.Opened.{all_defs}

pub gdb8_of_file_a : WritesGdb8 file_0 file_1
unfolding all_defs file_0 file_1
gdb8_of_file_a = refl

pub gdb8_of_file_e : WritesGdb8 file_2 file_3
unfolding all_defs file_2 file_3
gdb8_of_file_e = refl

pub gdb8_of_three_helpers : WritesGdb8 file_4 file_5
unfolding all_defs file_4 file_5
gdb8_of_three_helpers = refl

pub gdb9_of_file_a : WritesGdb9 file_0 file_6
unfolding all_defs file_0 file_6
gdb9_of_file_a = refl

pub gdb9_of_file_e : WritesGdb9 file_2 file_7
unfolding all_defs file_2 file_7
gdb9_of_file_e = refl
