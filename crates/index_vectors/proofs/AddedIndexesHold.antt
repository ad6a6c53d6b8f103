-- Written by tools/gen_vectors.py; not to be changed by hand.
-- Each row of AddedIndexes, by computation.
use Rattle.std.proofs.Common.{refl}
use Rattle.index_vectors.specs.Says.{AddsGdb8, AddsGdb9, AddsNames}
use Rattle.index_vectors.specs.AddedIndexes.{file_0, file_1, file_2, file_3}
use Rattle.index_vectors.proofs.Opened.{all_defs}

pub add_gdb8 : AddsGdb8 file_0 file_1
unfolding all_defs file_0 file_1
add_gdb8 = refl

pub add_gdb9 : AddsGdb9 file_0 file_2
unfolding all_defs file_0 file_2
add_gdb9 = refl

pub add_names : AddsNames file_0 file_3
unfolding all_defs file_0 file_3
add_names = refl
