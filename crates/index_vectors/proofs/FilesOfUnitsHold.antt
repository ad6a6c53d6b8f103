-- Written by tools/gen_vectors.py; not to be changed by hand.
-- Each row of FilesOfUnits, by computation.
use Rattle.std.proofs.Common.{refl}
use Rattle.std.specs.Prelude.{codes}
use Rattle.index_vectors.specs.Says.{ListsFiles}
use Rattle.index_vectors.specs.FilesOfUnits.{file_0, file_1}
use Rattle.index_vectors.proofs.Opened.{all_defs}

pub files_in_three_units : ListsFiles file_0 (codes "h.h") 0 (codes "found 3\n0 2 1 h.h\n1 2 1 h.h\n2 1 1 sub/h.h\n")
unfolding all_defs file_0
files_in_three_units = refl

pub files_first_damaged_table_counts : ListsFiles file_1 (codes "h.h") 15 (codes "files refused 70 35\n")
unfolding all_defs file_1
files_first_damaged_table_counts = refl
