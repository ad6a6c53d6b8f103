-- Written by tools/gen_vectors.py; not to be changed by hand.
-- Each row of NameIndexes, by computation.
use Rattle.std.proofs.Common.{refl}
use Rattle.index_vectors.specs.Says.{WritesNames}
use Rattle.index_vectors.specs.NameIndexes.{file_0, file_1, file_2, file_3, file_4, file_5}
use Rattle.index_vectors.proofs.Opened.{all_defs}

pub names_of_file_a : WritesNames file_0 file_1 file_2
unfolding all_defs file_0 file_1 file_2
names_of_file_a = refl

pub names_of_file_e : WritesNames file_3 file_4 file_5
unfolding all_defs file_3 file_4 file_5
names_of_file_e = refl
