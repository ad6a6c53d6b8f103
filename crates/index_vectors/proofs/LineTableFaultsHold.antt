-- Written by tools/gen_vectors.py; not to be changed by hand.
-- Each row of LineTableFaults, by computation.
use Rattle.std.proofs.Common.{refl}
use Rattle.std.specs.Prelude.{codes}
use Rattle.index_vectors.specs.Says.{ListsFiles}
use Rattle.index_vectors.specs.LineTableFaults.{file_0, file_1, file_2, file_3, file_4, file_5, file_6, file_7}
use Rattle.index_vectors.proofs.Opened.{all_defs}

pub files_length_cut : ListsFiles file_0 (codes "two.h") 15 (codes "files refused 70 0\n")
unfolding all_defs file_0
files_length_cut = refl

pub files_length_past_the_section : ListsFiles file_1 (codes "two.h") 15 (codes "files refused 70 0\n")
unfolding all_defs file_1
files_length_past_the_section = refl

pub files_length_reserved : ListsFiles file_2 (codes "two.h") 15 (codes "files refused 70 0\n")
unfolding all_defs file_2
files_length_reserved = refl

pub files_table_past_the_section : ListsFiles file_3 (codes "h.h") 15 (codes "files refused 70 0\n")
unfolding all_defs file_3
files_table_past_the_section = refl

pub files_version_1 : ListsFiles file_4 (codes "two.h") 15 (codes "files refused 71 0\n")
unfolding all_defs file_4
files_version_1 = refl

pub files_version_6 : ListsFiles file_5 (codes "two.h") 15 (codes "files refused 71 0\n")
unfolding all_defs file_5
files_version_6 = refl

pub files_version_cut : ListsFiles file_6 (codes "two.h") 15 (codes "files refused 71 0\n")
unfolding all_defs file_6
files_version_cut = refl

pub files_without_a_section : ListsFiles file_7 (codes "two.h") 15 (codes "files refused 70 0\n")
unfolding all_defs file_7
files_without_a_section = refl
