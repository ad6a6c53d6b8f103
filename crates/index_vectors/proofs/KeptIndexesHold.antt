-- Written by tools/gen_vectors.py; not to be changed by hand.
-- Each row of KeptIndexes, by computation.
use Rattle.std.proofs.Common.{refl}
use Rattle.std.specs.Prelude.{codes}
use Rattle.index_vectors.specs.Says.{IsStale, Keeps, KeepsNothing, KeptPrints, Prints}
use Rattle.index_vectors.specs.KeptIndexes.{file_0, file_1, file_2, file_3, file_4, file_5, file_6, file_7}
use Rattle.index_vectors.proofs.Opened.{all_defs}

pub cached_address : KeptPrints file_0 file_1 (codes "addr 101f") (codes "unit 0\n")
unfolding all_defs file_0 file_1
cached_address = refl

pub cached_cut_cache : IsStale file_0 file_2 41 8
unfolding all_defs file_0 file_2
cached_cut_cache = refl

pub cached_empty_cache : IsStale file_0 file_3 80 0
unfolding all_defs file_0 file_3
cached_empty_cache = refl

pub cached_file_without_id : KeepsNothing file_4 (codes "c_")
unfolding all_defs file_4
cached_file_without_id = refl

pub cached_first_run : Keeps file_0 (codes "c_") (codes "c_ab01.gdb-index") file_1
unfolding all_defs file_0 file_1
cached_first_run = refl

pub cached_hit_with_a_later_fault : KeptPrints file_5 file_1 (codes "name main") (codes "found 1\n0 function global main\n")
unfolding all_defs file_5 file_1
cached_hit_with_a_later_fault = refl

pub cached_main : KeptPrints file_0 file_1 (codes "main") (codes "main c main\n")
unfolding all_defs file_0 file_1
cached_main = refl

pub cached_other_id : IsStale file_0 file_6 81 0
unfolding all_defs file_0 file_6
cached_other_id = refl

pub cached_refused_header : Prints file_7 (codes "name main") 1 (codes "refused 5 0\n")
unfolding all_defs file_7
cached_refused_header = refl

pub cached_second_run : KeptPrints file_0 file_1 (codes "name main") (codes "found 1\n0 function global main\n")
unfolding all_defs file_0 file_1
cached_second_run = refl

pub cached_stale_with_a_later_fault : Prints file_5 (codes "name main") 1 (codes "refused 19 c\n")
unfolding all_defs file_5
cached_stale_with_a_later_fault = refl
