-- Written by tools/gen_vectors.py; not to be changed by hand.
-- The index that is kept for a small program by its build-id, and what was kept, opened with it.
use Rattle.std.specs.Prelude.{ℕ, List, [], ◌∷◌, ◌++◌, codes}
use Rattle.index_vectors.specs.Parts2.{part_56, part_78}
use Rattle.index_vectors.specs.Parts5.{part_171}
use Rattle.index_vectors.specs.Parts7.{part_309, part_310}
use Rattle.index_vectors.specs.Says.{IsStale, Keeps, KeepsNothing, KeptPrints, Prints}

unfoldable pub file_0 : List ℕ
file_0 =
    part_309 ++
    (0 ∷ 1 ∷ 8 ∷ 0 ∷ 0 ∷ 0 ∷ 0 ∷ 1 ∷ 97 ∷ 46 ∷ 99 ∷ 0 ∷ 12 ∷ 0 ∷ 16 ∷ 0 ∷ 0 ∷ 0 ∷ 0 ∷ 0 ∷ 0 ∷ 32 ∷ 0 ∷ 0 ∷
    []) ++
    part_78

unfoldable pub file_1 : List ℕ
file_1 =
    (71 ∷ 68 ∷ 66 ∷ 73 ∷ 88 ∷ 67 ∷ 49 ∷ 0 ∷ 2 ∷ 0 ∷ 0 ∷ 0 ∷ 171 ∷ 1 ∷ 9 ∷ 0 ∷ 0 ∷ 0 ∷ 28 ∷ 0 ∷ 0 ∷ 0 ∷ 44 ∷ 0 ∷
    []) ++
    part_310

unfoldable pub file_2 : List ℕ
file_2 =
    71 ∷ 68 ∷ 66 ∷ 73 ∷ 88 ∷ 67 ∷ 49 ∷ 0 ∷ 2 ∷ 0 ∷ 0 ∷ 0 ∷ 171 ∷ 1 ∷ 9 ∷ 0 ∷ 0 ∷ 0 ∷ 28 ∷ 0 ∷ 0 ∷ 0 ∷ 44 ∷ 0 ∷
    0 ∷ 0 ∷ 44 ∷ 0 ∷ 0 ∷ 0 ∷ 64 ∷ 0 ∷ 0 ∷ 0 ∷ 80 ∷ 0 ∷ 0 ∷ 0 ∷ 88 ∷ 0 ∷ 0 ∷ 0 ∷ 0 ∷ 0 ∷ 0 ∷ 0 ∷ 0 ∷ 0 ∷
    0 ∷ 0 ∷
    []

unfoldable pub file_3 : List ℕ
file_3 =
    []

unfoldable pub file_4 : List ℕ
file_4 =
    part_56

unfoldable pub file_5 : List ℕ
file_5 =
    part_309 ++
    (0 ∷ 1 ∷ 8 ∷ 0 ∷ 0 ∷ 0 ∷ 0 ∷ 3 ∷ 97 ∷ 46 ∷ 99 ∷ 0 ∷ 12 ∷ 0 ∷ 16 ∷ 0 ∷ 0 ∷ 0 ∷ 0 ∷ 0 ∷ 0 ∷ 32 ∷ 0 ∷ 0 ∷
    []) ++
    part_78

unfoldable pub file_6 : List ℕ
file_6 =
    (71 ∷ 68 ∷ 66 ∷ 73 ∷ 88 ∷ 67 ∷ 49 ∷ 0 ∷ 2 ∷ 0 ∷ 0 ∷ 0 ∷ 172 ∷ 1 ∷ 9 ∷ 0 ∷ 0 ∷ 0 ∷ 28 ∷ 0 ∷ 0 ∷ 0 ∷ 44 ∷ 0 ∷
    []) ++
    part_310

unfoldable pub file_7 : List ℕ
file_7 =
    (127 ∷ 69 ∷ 76 ∷ 70 ∷ 2 ∷ 1 ∷ 1 ∷ 0 ∷ 0 ∷ 0 ∷ 0 ∷ 0 ∷ 0 ∷ 0 ∷ 0 ∷ 0 ∷ 2 ∷ 0 ∷ 62 ∷ 0 ∷ 1 ∷ 0 ∷ 0 ∷ 0 ∷
    0 ∷ 0 ∷ 0 ∷ 0 ∷ 0 ∷ 0 ∷ 0 ∷ 0 ∷ 0 ∷ 0 ∷ 0 ∷ 0 ∷ 0 ∷ 0 ∷ 0 ∷ 0 ∷ 168 ∷ 0 ∷ 0 ∷ 0 ∷ 0 ∷ 0 ∷ 0 ∷ 0 ∷
    0 ∷ 0 ∷ 0 ∷ 0 ∷ 64 ∷ 0 ∷ 0 ∷ 0 ∷ 0 ∷ 0 ∷ 64 ∷ 0 ∷ 5 ∷ 0 ∷ 4 ∷ 0 ∷ 1 ∷ 17 ∷ 1 ∷ 3 ∷ 8 ∷ 19 ∷ 11 ∷ 17 ∷
    1 ∷ 18 ∷ 6 ∷ 0 ∷ 0 ∷ 2 ∷ 46 ∷ 0 ∷ 3 ∷ 8 ∷ 63 ∷ 25 ∷ 17 ∷ 1 ∷ 18 ∷ 6 ∷ 0 ∷ 0 ∷ 0 ∷ 4 ∷ 0 ∷ 0 ∷ 0 ∷ 2 ∷
    0 ∷ 0 ∷ 0 ∷ 3 ∷ 0 ∷ 0 ∷ 0 ∷ 71 ∷ 78 ∷ 85 ∷ 0 ∷ 171 ∷ 1 ∷ 0 ∷ 0 ∷ 0 ∷ 46 ∷ 100 ∷ 101 ∷ 98 ∷ 117 ∷ 103 ∷ 95 ∷ 97 ∷
    98 ∷ 98 ∷ 114 ∷ 101 ∷ 118 ∷ 0 ∷ 46 ∷ 100 ∷ 101 ∷ 98 ∷ 117 ∷ 103 ∷ 95 ∷ 105 ∷ 110 ∷ 102 ∷ 111 ∷ 0 ∷ 46 ∷ 110 ∷ 111 ∷ 116 ∷ 101 ∷ 46 ∷
    103 ∷ 110 ∷ 117 ∷ 46 ∷ 98 ∷ 117 ∷ 105 ∷ 108 ∷ 100 ∷ 45 ∷ 105 ∷ 100 ∷ 0 ∷ 46 ∷ 115 ∷ 104 ∷ 115 ∷ 116 ∷ 114 ∷ 116 ∷ 97 ∷ 98 ∷ 0 ∷ 0 ∷
    []) ++
    part_171 ++
    (0 ∷ 0 ∷ 0 ∷ 0 ∷ 0 ∷ 0 ∷ 0 ∷ 0 ∷ 91 ∷ 0 ∷ 0 ∷ 0 ∷ 0 ∷ 0 ∷ 0 ∷ 0 ∷ 0 ∷ 0 ∷ 0 ∷ 0 ∷ 0 ∷ 0 ∷ 0 ∷ 0 ∷
    0 ∷ 0 ∷ 0 ∷ 0 ∷ 0 ∷ 0 ∷ 0 ∷ 0 ∷ 1 ∷ 0 ∷ 0 ∷ 0 ∷ 0 ∷ 0 ∷ 0 ∷ 0 ∷ 0 ∷ 0 ∷ 0 ∷ 0 ∷ 0 ∷ 0 ∷ 0 ∷ 0 ∷
    27 ∷ 0 ∷ 0 ∷ 0 ∷ 1 ∷ 0 ∷ 0 ∷ 0 ∷ 0 ∷ 0 ∷ 0 ∷ 0 ∷ 0 ∷ 0 ∷ 0 ∷ 0 ∷ 0 ∷ 0 ∷ 0 ∷ 0 ∷ 0 ∷ 0 ∷ 0 ∷ 0 ∷
    91 ∷ 0 ∷ 0 ∷ 0 ∷ 0 ∷ 0 ∷ 0 ∷ 0 ∷ 20 ∷ 0 ∷ 0 ∷ 0 ∷ 0 ∷ 0 ∷ 0 ∷ 0 ∷ 0 ∷ 0 ∷ 0 ∷ 0 ∷ 0 ∷ 0 ∷ 0 ∷ 0 ∷
    1 ∷ 0 ∷ 0 ∷ 0 ∷ 0 ∷ 0 ∷ 0 ∷ 0 ∷ 0 ∷ 0 ∷ 0 ∷ 0 ∷ 0 ∷ 0 ∷ 0 ∷ 0 ∷ 46 ∷ 0 ∷ 0 ∷ 0 ∷ 3 ∷ 0 ∷ 0 ∷ 0 ∷
    0 ∷ 0 ∷ 0 ∷ 0 ∷ 0 ∷ 0 ∷ 0 ∷ 0 ∷ 0 ∷ 0 ∷ 0 ∷ 0 ∷ 0 ∷ 0 ∷ 0 ∷ 0 ∷ 111 ∷ 0 ∷ 0 ∷ 0 ∷ 0 ∷ 0 ∷ 0 ∷ 0 ∷
    56 ∷ 0 ∷ 0 ∷ 0 ∷ 0 ∷ 0 ∷ 0 ∷ 0 ∷ 0 ∷ 0 ∷ 0 ∷ 0 ∷ 0 ∷ 0 ∷ 0 ∷ 0 ∷ 1 ∷ 0 ∷ 0 ∷ 0 ∷ 0 ∷ 0 ∷ 0 ∷ 0 ∷
    0 ∷ 0 ∷ 0 ∷ 0 ∷ 0 ∷ 0 ∷ 0 ∷ 0 ∷
    [])

-- what each row says
abbrev pub KeptIndexes : Type 0
KeptIndexes = record {
  cached_address : KeptPrints file_0 file_1 (codes "addr 101f") (codes "unit 0\n");
  cached_cut_cache : IsStale file_0 file_2 41 8;
  cached_empty_cache : IsStale file_0 file_3 80 0;
  cached_file_without_id : KeepsNothing file_4 (codes "c_");
  cached_first_run : Keeps file_0 (codes "c_") (codes "c_ab01.gdb-index") file_1;
  cached_hit_with_a_later_fault : KeptPrints file_5 file_1 (codes "name main") (codes "found 1\n0 function global main\n");
  cached_main : KeptPrints file_0 file_1 (codes "main") (codes "main c main\n");
  cached_other_id : IsStale file_0 file_6 81 0;
  cached_refused_header : Prints file_7 (codes "name main") 1 (codes "refused 5 0\n");
  cached_second_run : KeptPrints file_0 file_1 (codes "name main") (codes "found 1\n0 function global main\n");
  cached_stale_with_a_later_fault : Prints file_5 (codes "name main") 1 (codes "refused 19 c\n");
}
