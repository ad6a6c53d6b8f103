-- Written by tools/gen_vectors.py; not to be changed by hand.
-- Files of line tables of version 5.
use Rattle.std.specs.Prelude.{ℕ, List, [], ◌∷◌, ◌++◌, codes}
use Rattle.index_vectors.specs.Parts1.{part_8, part_11, part_12, part_15, part_17, part_23}
use Rattle.index_vectors.specs.Parts2.{part_34}
use Rattle.index_vectors.specs.Parts4.{part_166}
use Rattle.index_vectors.specs.Parts5.{part_208, part_209}
use Rattle.index_vectors.specs.Parts6.{part_265, part_266}
use Rattle.index_vectors.specs.Parts7.{part_269, part_270, part_271, part_272}
use Rattle.index_vectors.specs.Says.{ListsFiles}

unfoldable pub file_0 : List ℕ
file_0 =
    part_270 ++
    (0 ∷ 1 ∷ 1 ∷ 1 ∷ 251 ∷ 14 ∷ 1 ∷ 0 ∷ 0 ∷ 2 ∷ 2 ∷ 15 ∷ 1 ∷ 8 ∷ 1 ∷ 128 ∷ 1 ∷ 116 ∷ 119 ∷ 111 ∷ 46 ∷ 104 ∷ 0 ∷ 111 ∷
    []) ++
    part_12

unfoldable pub file_1 : List ℕ
file_1 =
    part_266 ++
    (0 ∷ 1 ∷ 1 ∷ 1 ∷ 251 ∷ 14 ∷ 1 ∷ 0 ∷ 0 ∷ 0 ∷ 0 ∷ 111 ∷ 110 ∷ 101 ∷ 46 ∷ 99 ∷ 0 ∷ 100 ∷ 105 ∷ 114 ∷ 47 ∷ 116 ∷ 119 ∷ 111 ∷
    []) ++
    part_23

unfoldable pub file_2 : List ℕ
file_2 =
    part_270 ++
    (0 ∷ 1 ∷ 1 ∷ 1 ∷ 251 ∷ 14 ∷ 1 ∷ 0 ∷ 0 ∷ 1 ∷ 1 ∷ 8 ∷ 2 ∷ 97 ∷ 0 ∷ 120 ∷ 47 ∷ 116 ∷ 119 ∷ 111 ∷ 46 ∷ 104 ∷ 0 ∷ 111 ∷
    []) ++
    part_12

unfoldable pub file_3 : List ℕ
file_3 =
    part_269 ++
    (97 ∷ 46 ∷ 99 ∷ 0 ∷ 12 ∷ 0 ∷ 0 ∷ 0 ∷ 0 ∷ 2 ∷ 116 ∷ 0 ∷ 0 ∷ 32 ∷ 0 ∷ 0 ∷ 0 ∷ 5 ∷ 0 ∷ 8 ∷ 0 ∷ 0 ∷ 0 ∷ 0 ∷
    0 ∷ 1 ∷ 1 ∷ 1 ∷ 251 ∷ 14 ∷ 1 ∷ 0 ∷ 0 ∷ 2 ∷ 1 ∷ 8 ∷ 2 ∷ 11 ∷ 2 ∷ 97 ∷ 0 ∷ 7 ∷ 116 ∷ 119 ∷ 111 ∷ 46 ∷ 104 ∷ 0 ∷
    9 ∷ 111 ∷ 110 ∷ 101 ∷ 46 ∷ 99 ∷ 0 ∷ 100 ∷ 105 ∷ 114 ∷ 47 ∷ 116 ∷ 119 ∷ 111 ∷ 46 ∷ 104 ∷ 0 ∷ 116 ∷ 104 ∷ 114 ∷ 101 ∷ 101 ∷ 46 ∷ 104 ∷
    []) ++
    part_8

unfoldable pub file_4 : List ℕ
file_4 =
    part_34 ++
    part_209

unfoldable pub file_5 : List ℕ
file_5 =
    part_34 ++
    (224 ∷ 2 ∷ 0 ∷ 0 ∷ 0 ∷ 0 ∷ 0 ∷ 0 ∷ 95 ∷ 0 ∷ 0 ∷ 0 ∷ 0 ∷ 0 ∷ 0 ∷ 0 ∷ 0 ∷ 0 ∷ 0 ∷ 0 ∷ 0 ∷ 0 ∷ 0 ∷ 0 ∷
    []) ++
    part_208 ++
    (1 ∷ 0 ∷ 0 ∷ 0 ∷ 0 ∷ 0 ∷ 0 ∷ 0 ∷ 0 ∷ 0 ∷ 0 ∷ 0 ∷ 0 ∷ 0 ∷ 0 ∷ 0 ∷ 91 ∷ 0 ∷ 0 ∷ 0 ∷ 5 ∷ 0 ∷ 8 ∷ 0 ∷
    0 ∷ 0 ∷ 0 ∷ 0 ∷ 1 ∷ 1 ∷ 1 ∷ 251 ∷ 14 ∷ 1 ∷ 0 ∷ 0 ∷ 5 ∷ 5 ∷ 30 ∷ 3 ∷ 15 ∷ 1 ∷ 8 ∷ 160 ∷ 64 ∷ 14 ∷ 4 ∷ 9 ∷
    2 ∷ 0 ∷ 0 ∷ 0 ∷ 0 ∷ 0 ∷ 0 ∷ 0 ∷ 0 ∷ 0 ∷ 0 ∷ 0 ∷ 0 ∷ 0 ∷ 0 ∷ 0 ∷ 0 ∷ 128 ∷ 1 ∷ 116 ∷ 119 ∷ 111 ∷ 46 ∷ 104 ∷
    0 ∷ 255 ∷ 255 ∷ 255 ∷ 255 ∷ 2 ∷ 170 ∷ 187 ∷ 0 ∷ 0 ∷ 0 ∷ 0 ∷ 0 ∷ 0 ∷ 0 ∷ 0 ∷ 0 ∷ 0 ∷ 0 ∷ 0 ∷ 0 ∷ 0 ∷ 0 ∷ 0 ∷
    128 ∷ 1 ∷ 116 ∷ 119 ∷ 111 ∷ 46 ∷ 104 ∷ 0 ∷ 255 ∷ 255 ∷ 255 ∷ 255 ∷ 2 ∷ 170 ∷ 187 ∷
    [])

unfoldable pub file_6 : List ℕ
file_6 =
    part_272 ++
    (0 ∷ 1 ∷ 1 ∷ 1 ∷ 251 ∷ 14 ∷ 1 ∷ 1 ∷ 1 ∷ 8 ∷ 1 ∷ 116 ∷ 119 ∷ 111 ∷ 46 ∷ 104 ∷ 0 ∷ 1 ∷ 1 ∷ 8 ∷ 1 ∷ 116 ∷ 119 ∷ 111 ∷
    []) ++
    part_15

unfoldable pub file_7 : List ℕ
file_7 =
    part_271 ++
    (0 ∷ 1 ∷ 1 ∷ 1 ∷ 251 ∷ 14 ∷ 1 ∷ 0 ∷ 0 ∷ 1 ∷ 1 ∷ 31 ∷ 2 ∷ 0 ∷ 0 ∷ 0 ∷ 0 ∷ 8 ∷ 0 ∷ 0 ∷ 0 ∷ 111 ∷ 110 ∷ 101 ∷
    []) ++
    part_11

unfoldable pub file_8 : List ℕ
file_8 =
    part_271 ++
    (0 ∷ 1 ∷ 1 ∷ 1 ∷ 251 ∷ 14 ∷ 1 ∷ 0 ∷ 0 ∷ 1 ∷ 1 ∷ 14 ∷ 2 ∷ 0 ∷ 0 ∷ 0 ∷ 0 ∷ 6 ∷ 0 ∷ 0 ∷ 0 ∷ 111 ∷ 110 ∷ 101 ∷
    []) ++
    part_11

unfoldable pub file_9 : List ℕ
file_9 =
    part_265 ++
    (97 ∷ 46 ∷ 99 ∷ 0 ∷ 12 ∷ 0 ∷ 0 ∷ 0 ∷ 0 ∷ 2 ∷ 116 ∷ 0 ∷ 0 ∷ 21 ∷ 0 ∷ 0 ∷ 0 ∷ 5 ∷ 0 ∷ 8 ∷ 0 ∷ 0 ∷ 0 ∷ 0 ∷
    0 ∷ 1 ∷ 1 ∷ 1 ∷ 251 ∷ 14 ∷ 1 ∷ 0 ∷ 0 ∷ 1 ∷ 2 ∷ 11 ∷ 1 ∷ 5 ∷ 111 ∷ 110 ∷ 101 ∷ 46 ∷ 99 ∷ 0 ∷ 100 ∷ 105 ∷ 114 ∷ 47 ∷
    116 ∷ 119 ∷ 111 ∷ 46 ∷ 104 ∷ 0 ∷ 116 ∷ 104 ∷ 114 ∷ 101 ∷ 101 ∷ 46 ∷ 104 ∷ 0 ∷ 47 ∷ 100 ∷ 47 ∷ 102 ∷ 111 ∷ 117 ∷ 114 ∷ 46 ∷ 104 ∷ 0 ∷
    0 ∷ 46 ∷ 100 ∷ 101 ∷ 98 ∷ 117 ∷ 103 ∷ 95 ∷ 97 ∷ 98 ∷ 98 ∷ 114 ∷ 101 ∷ 118 ∷ 0 ∷ 46 ∷ 100 ∷ 101 ∷ 98 ∷ 117 ∷ 103 ∷ 95 ∷ 105 ∷ 110 ∷
    102 ∷ 111 ∷ 0 ∷ 46 ∷ 100 ∷ 101 ∷ 98 ∷ 117 ∷ 103 ∷ 95 ∷ 108 ∷ 105 ∷ 110 ∷ 101 ∷ 0 ∷ 46 ∷ 100 ∷ 101 ∷ 98 ∷ 117 ∷ 103 ∷ 95 ∷ 115 ∷ 116 ∷
    114 ∷ 0 ∷ 46 ∷ 100 ∷ 101 ∷ 98 ∷ 117 ∷ 103 ∷ 95 ∷ 108 ∷ 105 ∷ 110 ∷ 101 ∷ 95 ∷ 115 ∷ 116 ∷ 114 ∷ 0 ∷ 46 ∷ 115 ∷ 104 ∷ 115 ∷ 116 ∷ 114 ∷
    116 ∷ 97 ∷ 98 ∷ 0 ∷ 0 ∷ 0 ∷ 0 ∷ 0 ∷ 0 ∷ 0 ∷ 0 ∷ 0 ∷ 0 ∷ 0 ∷ 0 ∷ 0 ∷ 0 ∷ 0 ∷ 0 ∷ 0 ∷ 0 ∷ 0 ∷ 0 ∷ 0 ∷
    []) ++
    part_17 ++
    (0 ∷ 0 ∷ 0 ∷ 0 ∷ 0 ∷ 0 ∷ 0 ∷ 0 ∷ 109 ∷ 0 ∷ 0 ∷ 0 ∷ 0 ∷ 0 ∷ 0 ∷ 0 ∷ 25 ∷ 0 ∷ 0 ∷ 0 ∷ 0 ∷ 0 ∷ 0 ∷ 0 ∷
    0 ∷ 0 ∷ 0 ∷ 0 ∷ 0 ∷ 0 ∷ 0 ∷ 0 ∷ 1 ∷ 0 ∷ 0 ∷ 0 ∷ 0 ∷ 0 ∷ 0 ∷ 0 ∷ 0 ∷ 0 ∷ 0 ∷ 0 ∷ 0 ∷ 0 ∷ 0 ∷ 0 ∷
    39 ∷ 0 ∷ 0 ∷ 0 ∷ 1 ∷ 0 ∷ 0 ∷ 0 ∷ 0 ∷ 0 ∷ 0 ∷ 0 ∷ 0 ∷ 0 ∷ 0 ∷ 0 ∷ 0 ∷ 0 ∷ 0 ∷ 0 ∷ 0 ∷ 0 ∷ 0 ∷ 0 ∷
    134 ∷ 0 ∷ 0 ∷ 0 ∷ 0 ∷ 0 ∷ 0 ∷ 0 ∷ 16 ∷ 0 ∷ 0 ∷ 0 ∷ 0 ∷ 0 ∷ 0 ∷ 0 ∷ 0 ∷ 0 ∷ 0 ∷ 0 ∷ 0 ∷ 0 ∷ 0 ∷ 0 ∷
    1 ∷ 0 ∷ 0 ∷ 0 ∷ 0 ∷ 0 ∷ 0 ∷ 0 ∷ 0 ∷ 0 ∷ 0 ∷ 0 ∷ 0 ∷ 0 ∷ 0 ∷ 0 ∷ 50 ∷ 0 ∷ 0 ∷ 0 ∷ 1 ∷ 0 ∷ 0 ∷ 0 ∷
    0 ∷ 0 ∷ 0 ∷ 0 ∷ 0 ∷ 0 ∷ 0 ∷ 0 ∷ 0 ∷ 0 ∷ 0 ∷ 0 ∷ 0 ∷ 0 ∷ 0 ∷ 0 ∷ 150 ∷ 0 ∷ 0 ∷ 0 ∷ 0 ∷ 0 ∷ 0 ∷ 0 ∷
    18 ∷ 0 ∷ 0 ∷ 0 ∷ 0 ∷ 0 ∷ 0 ∷ 0 ∷ 0 ∷ 0 ∷ 0 ∷ 0 ∷ 0 ∷ 0 ∷ 0 ∷ 0 ∷ 1 ∷ 0 ∷ 0 ∷ 0 ∷ 0 ∷ 0 ∷ 0 ∷ 0 ∷
    0 ∷ 0 ∷ 0 ∷ 0 ∷ 0 ∷ 0 ∷ 0 ∷ 0 ∷ 66 ∷ 0 ∷ 0 ∷ 0 ∷ 3 ∷ 0 ∷ 0 ∷ 0 ∷ 0 ∷ 0 ∷ 0 ∷ 0 ∷ 0 ∷ 0 ∷ 0 ∷ 0 ∷
    0 ∷ 0 ∷ 0 ∷ 0 ∷ 0 ∷ 0 ∷ 0 ∷ 0 ∷ 168 ∷ 0 ∷ 0 ∷ 0 ∷ 0 ∷ 0 ∷ 0 ∷ 0 ∷ 76 ∷ 0 ∷ 0 ∷ 0 ∷ 0 ∷ 0 ∷ 0 ∷ 0 ∷
    0 ∷ 0 ∷ 0 ∷ 0 ∷ 0 ∷ 0 ∷ 0 ∷ 0 ∷ 1 ∷ 0 ∷ 0 ∷ 0 ∷ 0 ∷ 0 ∷ 0 ∷ 0 ∷ 0 ∷ 0 ∷ 0 ∷ 0 ∷ 0 ∷ 0 ∷ 0 ∷ 0 ∷
    [])

unfoldable pub file_10 : List ℕ
file_10 =
    part_272 ++
    (0 ∷ 1 ∷ 1 ∷ 1 ∷ 251 ∷ 14 ∷ 1 ∷ 0 ∷ 0 ∷ 3 ∷ 2 ∷ 5 ∷ 2 ∷ 8 ∷ 1 ∷ 8 ∷ 1 ∷ 5 ∷ 0 ∷ 97 ∷ 0 ∷ 116 ∷ 119 ∷ 111 ∷
    []) ++
    part_15

unfoldable pub file_11 : List ℕ
file_11 =
    part_269 ++
    (97 ∷ 46 ∷ 99 ∷ 0 ∷ 12 ∷ 0 ∷ 0 ∷ 0 ∷ 0 ∷ 2 ∷ 116 ∷ 0 ∷ 0 ∷ 29 ∷ 0 ∷ 0 ∷ 0 ∷ 5 ∷ 0 ∷ 8 ∷ 0 ∷ 0 ∷ 0 ∷ 0 ∷
    0 ∷ 1 ∷ 1 ∷ 1 ∷ 251 ∷ 14 ∷ 1 ∷ 0 ∷ 0 ∷ 2 ∷ 1 ∷ 8 ∷ 1 ∷ 11 ∷ 1 ∷ 116 ∷ 119 ∷ 111 ∷ 46 ∷ 104 ∷ 0 ∷ 7 ∷ 111 ∷ 110 ∷
    []) ++
    part_166 ++
    (33 ∷ 0 ∷ 0 ∷ 0 ∷ 0 ∷ 0 ∷ 0 ∷ 0 ∷ 0 ∷ 0 ∷ 0 ∷ 0 ∷ 0 ∷ 0 ∷ 0 ∷ 0 ∷ 1 ∷ 0 ∷ 0 ∷ 0 ∷ 0 ∷ 0 ∷ 0 ∷ 0 ∷
    0 ∷ 0 ∷ 0 ∷ 0 ∷ 0 ∷ 0 ∷ 0 ∷ 0 ∷ 39 ∷ 0 ∷ 0 ∷ 0 ∷ 1 ∷ 0 ∷ 0 ∷ 0 ∷ 0 ∷ 0 ∷ 0 ∷ 0 ∷ 0 ∷ 0 ∷ 0 ∷ 0 ∷
    0 ∷ 0 ∷ 0 ∷ 0 ∷ 0 ∷ 0 ∷ 0 ∷ 0 ∷ 142 ∷ 0 ∷ 0 ∷ 0 ∷ 0 ∷ 0 ∷ 0 ∷ 0 ∷ 16 ∷ 0 ∷ 0 ∷ 0 ∷ 0 ∷ 0 ∷ 0 ∷ 0 ∷
    0 ∷ 0 ∷ 0 ∷ 0 ∷ 0 ∷ 0 ∷ 0 ∷ 0 ∷ 1 ∷ 0 ∷ 0 ∷ 0 ∷ 0 ∷ 0 ∷ 0 ∷ 0 ∷ 0 ∷ 0 ∷ 0 ∷ 0 ∷ 0 ∷ 0 ∷ 0 ∷ 0 ∷
    50 ∷ 0 ∷ 0 ∷ 0 ∷ 1 ∷ 0 ∷ 0 ∷ 0 ∷ 0 ∷ 0 ∷ 0 ∷ 0 ∷ 0 ∷ 0 ∷ 0 ∷ 0 ∷ 0 ∷ 0 ∷ 0 ∷ 0 ∷ 0 ∷ 0 ∷ 0 ∷ 0 ∷
    158 ∷ 0 ∷ 0 ∷ 0 ∷ 0 ∷ 0 ∷ 0 ∷ 0 ∷ 18 ∷ 0 ∷ 0 ∷ 0 ∷ 0 ∷ 0 ∷ 0 ∷ 0 ∷ 0 ∷ 0 ∷ 0 ∷ 0 ∷ 0 ∷ 0 ∷ 0 ∷ 0 ∷
    1 ∷ 0 ∷ 0 ∷ 0 ∷ 0 ∷ 0 ∷ 0 ∷ 0 ∷ 0 ∷ 0 ∷ 0 ∷ 0 ∷ 0 ∷ 0 ∷ 0 ∷ 0 ∷ 66 ∷ 0 ∷ 0 ∷ 0 ∷ 3 ∷ 0 ∷ 0 ∷ 0 ∷
    0 ∷ 0 ∷ 0 ∷ 0 ∷ 0 ∷ 0 ∷ 0 ∷ 0 ∷ 0 ∷ 0 ∷ 0 ∷ 0 ∷ 0 ∷ 0 ∷ 0 ∷ 0 ∷ 176 ∷ 0 ∷ 0 ∷ 0 ∷ 0 ∷ 0 ∷ 0 ∷ 0 ∷
    76 ∷ 0 ∷ 0 ∷ 0 ∷ 0 ∷ 0 ∷ 0 ∷ 0 ∷ 0 ∷ 0 ∷ 0 ∷ 0 ∷ 0 ∷ 0 ∷ 0 ∷ 0 ∷ 1 ∷ 0 ∷ 0 ∷ 0 ∷ 0 ∷ 0 ∷ 0 ∷ 0 ∷
    0 ∷ 0 ∷ 0 ∷ 0 ∷ 0 ∷ 0 ∷ 0 ∷ 0 ∷
    [])

-- what each row says
abbrev pub EntryFormats : Type 0
EntryFormats = record {
  files_directory_before_path : ListsFiles file_0 (codes "two.h") 0 (codes "found 1\n0 0 128 two.h\n");
  files_no_formats_and_no_entries : ListsFiles file_1 (codes "two.h") 0 (codes "found 0\n");
  files_of_version_5 : ListsFiles file_2 (codes "two.h") 0 (codes "found 1\n0 1 0 x/two.h\n");
  files_of_version_5_with_a_directory : ListsFiles file_3 (codes "two.h") 0 (codes "found 1\n0 1 9 two.h\n");
  files_other_contents_are_skipped : ListsFiles file_4 (codes "two.h") 0 (codes "found 1\n0 0 0 two.h\n");
  files_behind_blocks : ListsFiles file_5 (codes "two.h") 0 (codes "found 2\n0 0 0 two.h\n0 1 0 two.h\n");
  files_path_in_a_directory_table : ListsFiles file_6 (codes "two.h") 0 (codes "found 1\n0 0 0 two.h\n");
  files_path_in_debug_line_str : ListsFiles file_7 (codes "four.h") 0 (codes "found 1\n0 1 0 /d/four.h\n");
  files_path_in_debug_str : ListsFiles file_8 (codes "two.h") 0 (codes "found 1\n0 1 0 dir/two.h\n");
  files_path_is_missing : ListsFiles file_9 (codes "two.h") 0 (codes "found 0\n");
  files_second_directory_is_skipped : ListsFiles file_10 (codes "two.h") 0 (codes "found 1\n0 0 5 two.h\n");
  files_second_path_is_skipped : ListsFiles file_11 (codes "two.h") 0 (codes "found 1\n0 0 0 two.h\n");
}
