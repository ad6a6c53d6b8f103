-- Written by tools/gen_vectors.py; not to be changed by hand.
-- Names that the Ada compiler encodes.
use Rattle.std.specs.Prelude.{ℕ, List, [], ◌∷◌, ◌++◌, codes}
use Rattle.index_vectors.specs.Parts5.{part_170, part_182, part_184, part_186, part_187, part_188, part_192, part_195, part_196, part_202}
use Rattle.index_vectors.specs.Parts7.{part_302, part_303, part_304, part_305}
use Rattle.index_vectors.specs.Says.{Prints}

unfoldable pub file_0 : List ℕ
file_0 =
    part_302 ++
    (0 ∷ 1 ∷ 120 ∷ 0 ∷ 13 ∷ 2 ∷ 95 ∷ 95 ∷ 49 ∷ 50 ∷ 0 ∷ 1 ∷ 0 ∷ 0 ∷ 0 ∷ 0 ∷ 0 ∷ 0 ∷ 0 ∷ 1 ∷ 0 ∷ 0 ∷ 0 ∷ 0 ∷
    []) ++
    part_186

unfoldable pub file_1 : List ℕ
file_1 =
    part_303 ++
    (0 ∷ 1 ∷ 120 ∷ 0 ∷ 13 ∷ 2 ∷ 95 ∷ 97 ∷ 100 ∷ 97 ∷ 95 ∷ 95 ∷ 97 ∷ 100 ∷ 97 ∷ 95 ∷ 113 ∷ 0 ∷ 1 ∷ 0 ∷ 0 ∷ 0 ∷ 0 ∷ 0 ∷
    []) ++
    part_196

unfoldable pub file_2 : List ℕ
file_2 =
    part_304 ++
    (0 ∷ 1 ∷ 120 ∷ 0 ∷ 13 ∷ 2 ∷ 95 ∷ 97 ∷ 100 ∷ 97 ∷ 95 ∷ 0 ∷ 1 ∷ 0 ∷ 0 ∷ 0 ∷ 0 ∷ 0 ∷ 0 ∷ 0 ∷ 1 ∷ 0 ∷ 0 ∷ 0 ∷
    []) ++
    part_182

unfoldable pub file_3 : List ℕ
file_3 =
    (127 ∷ 69 ∷ 76 ∷ 70 ∷ 2 ∷ 1 ∷ 1 ∷ 0 ∷ 0 ∷ 0 ∷ 0 ∷ 0 ∷ 0 ∷ 0 ∷ 0 ∷ 0 ∷ 2 ∷ 0 ∷ 62 ∷ 0 ∷ 1 ∷ 0 ∷ 0 ∷ 0 ∷
    0 ∷ 0 ∷ 0 ∷ 0 ∷ 0 ∷ 0 ∷ 0 ∷ 0 ∷ 0 ∷ 0 ∷ 0 ∷ 0 ∷ 0 ∷ 0 ∷ 0 ∷ 0 ∷ 160 ∷ 0 ∷ 0 ∷ 0 ∷ 0 ∷ 0 ∷ 0 ∷ 0 ∷
    0 ∷ 0 ∷ 0 ∷ 0 ∷ 64 ∷ 0 ∷ 0 ∷ 0 ∷ 0 ∷ 0 ∷ 64 ∷ 0 ∷ 4 ∷ 0 ∷ 3 ∷ 0 ∷ 1 ∷ 17 ∷ 1 ∷ 3 ∷ 8 ∷ 19 ∷ 11 ∷ 0 ∷
    0 ∷ 2 ∷ 46 ∷ 0 ∷ 3 ∷ 8 ∷ 17 ∷ 1 ∷ 18 ∷ 6 ∷ 0 ∷ 0 ∷ 0 ∷ 33 ∷ 0 ∷ 0 ∷ 0 ∷ 5 ∷ 0 ∷ 1 ∷ 8 ∷ 0 ∷ 0 ∷ 0 ∷
    0 ∷ 1 ∷ 120 ∷ 0 ∷ 13 ∷ 2 ∷ 95 ∷ 97 ∷ 100 ∷ 97 ∷ 95 ∷ 81 ∷ 0 ∷ 1 ∷ 0 ∷ 0 ∷ 0 ∷ 0 ∷ 0 ∷ 0 ∷ 0 ∷ 1 ∷ 0 ∷ 0 ∷
    []) ++
    part_188

unfoldable pub file_4 : List ℕ
file_4 =
    (127 ∷ 69 ∷ 76 ∷ 70 ∷ 2 ∷ 1 ∷ 1 ∷ 0 ∷ 0 ∷ 0 ∷ 0 ∷ 0 ∷ 0 ∷ 0 ∷ 0 ∷ 0 ∷ 2 ∷ 0 ∷ 62 ∷ 0 ∷ 1 ∷ 0 ∷ 0 ∷ 0 ∷
    0 ∷ 0 ∷ 0 ∷ 0 ∷ 0 ∷ 0 ∷ 0 ∷ 0 ∷ 0 ∷ 0 ∷ 0 ∷ 0 ∷ 0 ∷ 0 ∷ 0 ∷ 0 ∷ 168 ∷ 0 ∷ 0 ∷ 0 ∷ 0 ∷ 0 ∷ 0 ∷ 0 ∷
    0 ∷ 0 ∷ 0 ∷ 0 ∷ 64 ∷ 0 ∷ 0 ∷ 0 ∷ 0 ∷ 0 ∷ 64 ∷ 0 ∷ 4 ∷ 0 ∷ 3 ∷ 0 ∷ 1 ∷ 17 ∷ 1 ∷ 3 ∷ 8 ∷ 19 ∷ 11 ∷ 0 ∷
    0 ∷ 2 ∷ 46 ∷ 0 ∷ 3 ∷ 8 ∷ 17 ∷ 1 ∷ 18 ∷ 6 ∷ 0 ∷ 0 ∷ 0 ∷ 36 ∷ 0 ∷ 0 ∷ 0 ∷ 5 ∷ 0 ∷ 1 ∷ 8 ∷ 0 ∷ 0 ∷ 0 ∷
    0 ∷ 1 ∷ 120 ∷ 0 ∷ 13 ∷ 2 ∷ 95 ∷ 97 ∷ 100 ∷ 97 ∷ 95 ∷ 120 ∷ 95 ∷ 95 ∷ 121 ∷ 0 ∷ 1 ∷ 0 ∷ 0 ∷ 0 ∷ 0 ∷ 0 ∷ 0 ∷ 0 ∷
    1 ∷ 0 ∷ 0 ∷ 0 ∷ 0 ∷ 0 ∷ 46 ∷ 100 ∷ 101 ∷ 98 ∷ 117 ∷ 103 ∷ 95 ∷ 97 ∷ 98 ∷ 98 ∷ 114 ∷ 101 ∷ 118 ∷ 0 ∷ 46 ∷ 100 ∷ 101 ∷ 98 ∷
    117 ∷ 103 ∷ 95 ∷ 105 ∷ 110 ∷ 102 ∷ 111 ∷ 0 ∷ 46 ∷ 115 ∷ 104 ∷ 115 ∷ 116 ∷ 114 ∷ 116 ∷ 97 ∷ 98 ∷ 0 ∷ 0 ∷ 0 ∷ 0 ∷ 0 ∷ 0 ∷ 0 ∷
    []) ++
    part_195 ++
    (0 ∷ 0 ∷ 0 ∷ 0 ∷ 0 ∷ 0 ∷ 0 ∷ 0 ∷ 85 ∷ 0 ∷ 0 ∷ 0 ∷ 0 ∷ 0 ∷ 0 ∷ 0 ∷ 40 ∷ 0 ∷ 0 ∷ 0 ∷ 0 ∷ 0 ∷ 0 ∷ 0 ∷
    0 ∷ 0 ∷ 0 ∷ 0 ∷ 0 ∷ 0 ∷ 0 ∷ 0 ∷ 1 ∷ 0 ∷ 0 ∷ 0 ∷ 0 ∷ 0 ∷ 0 ∷ 0 ∷ 0 ∷ 0 ∷ 0 ∷ 0 ∷ 0 ∷ 0 ∷ 0 ∷ 0 ∷
    27 ∷ 0 ∷ 0 ∷ 0 ∷ 3 ∷ 0 ∷ 0 ∷ 0 ∷ 0 ∷ 0 ∷ 0 ∷ 0 ∷ 0 ∷ 0 ∷ 0 ∷ 0 ∷ 0 ∷ 0 ∷ 0 ∷ 0 ∷ 0 ∷ 0 ∷ 0 ∷ 0 ∷
    125 ∷ 0 ∷ 0 ∷ 0 ∷ 0 ∷ 0 ∷ 0 ∷ 0 ∷ 37 ∷ 0 ∷ 0 ∷ 0 ∷ 0 ∷ 0 ∷ 0 ∷ 0 ∷ 0 ∷ 0 ∷ 0 ∷ 0 ∷ 0 ∷ 0 ∷ 0 ∷ 0 ∷
    1 ∷ 0 ∷ 0 ∷ 0 ∷ 0 ∷ 0 ∷ 0 ∷ 0 ∷ 0 ∷ 0 ∷ 0 ∷ 0 ∷ 0 ∷ 0 ∷ 0 ∷ 0 ∷
    [])

unfoldable pub file_5 : List ℕ
file_5 =
    part_305 ++
    (0 ∷ 1 ∷ 120 ∷ 0 ∷ 13 ∷ 2 ∷ 97 ∷ 49 ∷ 95 ∷ 95 ∷ 98 ∷ 95 ∷ 99 ∷ 0 ∷ 1 ∷ 0 ∷ 0 ∷ 0 ∷ 0 ∷ 0 ∷ 0 ∷ 0 ∷ 1 ∷ 0 ∷
    []) ++
    part_184

unfoldable pub file_6 : List ℕ
file_6 =
    part_305 ++
    (0 ∷ 1 ∷ 120 ∷ 0 ∷ 13 ∷ 2 ∷ 97 ∷ 95 ∷ 95 ∷ 49 ∷ 95 ∷ 95 ∷ 50 ∷ 0 ∷ 1 ∷ 0 ∷ 0 ∷ 0 ∷ 0 ∷ 0 ∷ 0 ∷ 0 ∷ 1 ∷ 0 ∷
    []) ++
    part_184

unfoldable pub file_7 : List ℕ
file_7 =
    part_302 ++
    (0 ∷ 1 ∷ 120 ∷ 0 ∷ 13 ∷ 2 ∷ 97 ∷ 95 ∷ 95 ∷ 49 ∷ 0 ∷ 1 ∷ 0 ∷ 0 ∷ 0 ∷ 0 ∷ 0 ∷ 0 ∷ 0 ∷ 1 ∷ 0 ∷ 0 ∷ 0 ∷ 0 ∷
    []) ++
    part_186

unfoldable pub file_8 : List ℕ
file_8 =
    part_304 ++
    (0 ∷ 1 ∷ 120 ∷ 0 ∷ 13 ∷ 2 ∷ 97 ∷ 95 ∷ 95 ∷ 95 ∷ 98 ∷ 0 ∷ 1 ∷ 0 ∷ 0 ∷ 0 ∷ 0 ∷ 0 ∷ 0 ∷ 0 ∷ 1 ∷ 0 ∷ 0 ∷ 0 ∷
    []) ++
    part_182

unfoldable pub file_9 : List ℕ
file_9 =
    part_304 ++
    (0 ∷ 1 ∷ 120 ∷ 0 ∷ 13 ∷ 2 ∷ 97 ∷ 95 ∷ 95 ∷ 98 ∷ 50 ∷ 0 ∷ 1 ∷ 0 ∷ 0 ∷ 0 ∷ 0 ∷ 0 ∷ 0 ∷ 0 ∷ 1 ∷ 0 ∷ 0 ∷ 0 ∷
    []) ++
    part_182

unfoldable pub file_10 : List ℕ
file_10 =
    part_303 ++
    (0 ∷ 1 ∷ 120 ∷ 0 ∷ 13 ∷ 2 ∷ 97 ∷ 95 ∷ 95 ∷ 98 ∷ 95 ∷ 95 ∷ 99 ∷ 95 ∷ 95 ∷ 49 ∷ 50 ∷ 0 ∷ 1 ∷ 0 ∷ 0 ∷ 0 ∷ 0 ∷ 0 ∷
    []) ++
    part_196

unfoldable pub file_11 : List ℕ
file_11 =
    part_302 ++
    (0 ∷ 1 ∷ 120 ∷ 0 ∷ 13 ∷ 2 ∷ 65 ∷ 95 ∷ 95 ∷ 98 ∷ 0 ∷ 1 ∷ 0 ∷ 0 ∷ 0 ∷ 0 ∷ 0 ∷ 0 ∷ 0 ∷ 1 ∷ 0 ∷ 0 ∷ 0 ∷ 0 ∷
    []) ++
    part_186

unfoldable pub file_12 : List ℕ
file_12 =
    (127 ∷ 69 ∷ 76 ∷ 70 ∷ 2 ∷ 1 ∷ 1 ∷ 0 ∷ 0 ∷ 0 ∷ 0 ∷ 0 ∷ 0 ∷ 0 ∷ 0 ∷ 0 ∷ 2 ∷ 0 ∷ 62 ∷ 0 ∷ 1 ∷ 0 ∷ 0 ∷ 0 ∷
    0 ∷ 0 ∷ 0 ∷ 0 ∷ 0 ∷ 0 ∷ 0 ∷ 0 ∷ 0 ∷ 0 ∷ 0 ∷ 0 ∷ 0 ∷ 0 ∷ 0 ∷ 0 ∷ 160 ∷ 0 ∷ 0 ∷ 0 ∷ 0 ∷ 0 ∷ 0 ∷ 0 ∷
    0 ∷ 0 ∷ 0 ∷ 0 ∷ 64 ∷ 0 ∷ 0 ∷ 0 ∷ 0 ∷ 0 ∷ 64 ∷ 0 ∷ 4 ∷ 0 ∷ 3 ∷ 0 ∷ 1 ∷ 17 ∷ 1 ∷ 3 ∷ 8 ∷ 19 ∷ 11 ∷ 0 ∷
    0 ∷ 2 ∷ 46 ∷ 0 ∷ 3 ∷ 8 ∷ 17 ∷ 1 ∷ 18 ∷ 6 ∷ 0 ∷ 0 ∷ 0 ∷ 29 ∷ 0 ∷ 0 ∷ 0 ∷ 5 ∷ 0 ∷ 1 ∷ 8 ∷ 0 ∷ 0 ∷ 0 ∷
    0 ∷ 1 ∷ 120 ∷ 0 ∷ 13 ∷ 2 ∷ 97 ∷ 95 ∷ 0 ∷ 1 ∷ 0 ∷ 0 ∷ 0 ∷ 0 ∷ 0 ∷ 0 ∷ 0 ∷ 1 ∷ 0 ∷ 0 ∷ 0 ∷ 0 ∷ 0 ∷ 46 ∷
    []) ++
    part_187

unfoldable pub file_13 : List ℕ
file_13 =
    (127 ∷ 69 ∷ 76 ∷ 70 ∷ 2 ∷ 1 ∷ 1 ∷ 0 ∷ 0 ∷ 0 ∷ 0 ∷ 0 ∷ 0 ∷ 0 ∷ 0 ∷ 0 ∷ 2 ∷ 0 ∷ 62 ∷ 0 ∷ 1 ∷ 0 ∷ 0 ∷ 0 ∷
    0 ∷ 0 ∷ 0 ∷ 0 ∷ 0 ∷ 0 ∷ 0 ∷ 0 ∷ 0 ∷ 0 ∷ 0 ∷ 0 ∷ 0 ∷ 0 ∷ 0 ∷ 0 ∷ 160 ∷ 0 ∷ 0 ∷ 0 ∷ 0 ∷ 0 ∷ 0 ∷ 0 ∷
    0 ∷ 0 ∷ 0 ∷ 0 ∷ 64 ∷ 0 ∷ 0 ∷ 0 ∷ 0 ∷ 0 ∷ 64 ∷ 0 ∷ 4 ∷ 0 ∷ 3 ∷ 0 ∷ 1 ∷ 17 ∷ 1 ∷ 3 ∷ 8 ∷ 19 ∷ 11 ∷ 0 ∷
    0 ∷ 2 ∷ 46 ∷ 0 ∷ 3 ∷ 8 ∷ 17 ∷ 1 ∷ 18 ∷ 6 ∷ 0 ∷ 0 ∷ 0 ∷ 30 ∷ 0 ∷ 0 ∷ 0 ∷ 5 ∷ 0 ∷ 1 ∷ 8 ∷ 0 ∷ 0 ∷ 0 ∷
    0 ∷ 1 ∷ 120 ∷ 0 ∷ 13 ∷ 2 ∷ 120 ∷ 95 ∷ 95 ∷ 0 ∷ 1 ∷ 0 ∷ 0 ∷ 0 ∷ 0 ∷ 0 ∷ 0 ∷ 0 ∷ 1 ∷ 0 ∷ 0 ∷ 0 ∷ 0 ∷ 0 ∷
    []) ++
    part_170

unfoldable pub file_14 : List ℕ
file_14 =
    (127 ∷ 69 ∷ 76 ∷ 70 ∷ 2 ∷ 1 ∷ 1 ∷ 0 ∷ 0 ∷ 0 ∷ 0 ∷ 0 ∷ 0 ∷ 0 ∷ 0 ∷ 0 ∷ 2 ∷ 0 ∷ 62 ∷ 0 ∷ 1 ∷ 0 ∷ 0 ∷ 0 ∷
    0 ∷ 0 ∷ 0 ∷ 0 ∷ 0 ∷ 0 ∷ 0 ∷ 0 ∷ 0 ∷ 0 ∷ 0 ∷ 0 ∷ 0 ∷ 0 ∷ 0 ∷ 0 ∷ 216 ∷ 0 ∷ 0 ∷ 0 ∷ 0 ∷ 0 ∷ 0 ∷ 0 ∷
    0 ∷ 0 ∷ 0 ∷ 0 ∷ 64 ∷ 0 ∷ 0 ∷ 0 ∷ 0 ∷ 0 ∷ 64 ∷ 0 ∷ 4 ∷ 0 ∷ 3 ∷ 0 ∷ 1 ∷ 17 ∷ 1 ∷ 3 ∷ 8 ∷ 19 ∷ 11 ∷ 0 ∷
    0 ∷ 2 ∷ 46 ∷ 0 ∷ 3 ∷ 8 ∷ 17 ∷ 1 ∷ 18 ∷ 6 ∷ 0 ∷ 0 ∷ 3 ∷ 22 ∷ 0 ∷ 3 ∷ 8 ∷ 0 ∷ 0 ∷ 0 ∷ 77 ∷ 0 ∷ 0 ∷ 0 ∷
    5 ∷ 0 ∷ 1 ∷ 8 ∷ 0 ∷ 0 ∷ 0 ∷ 0 ∷ 1 ∷ 112 ∷ 46 ∷ 97 ∷ 100 ∷ 98 ∷ 0 ∷ 13 ∷ 2 ∷ 95 ∷ 97 ∷ 100 ∷ 97 ∷ 95 ∷ 100 ∷ 101 ∷
    109 ∷ 111 ∷ 0 ∷ 0 ∷ 16 ∷ 0 ∷ 0 ∷ 0 ∷ 0 ∷ 0 ∷ 0 ∷ 16 ∷ 0 ∷ 0 ∷ 0 ∷ 2 ∷ 112 ∷ 107 ∷ 103 ∷ 95 ∷ 95 ∷ 112 ∷ 114 ∷ 111 ∷
    99 ∷ 95 ∷ 95 ∷ 50 ∷ 0 ∷ 16 ∷ 16 ∷ 0 ∷ 0 ∷ 0 ∷ 0 ∷ 0 ∷ 0 ∷ 16 ∷ 0 ∷ 0 ∷ 0 ∷ 3 ∷ 112 ∷ 107 ∷ 103 ∷ 95 ∷ 95 ∷ 95 ∷
    88 ∷ 86 ∷ 69 ∷ 0 ∷ 0 ∷ 0 ∷ 46 ∷ 100 ∷ 101 ∷ 98 ∷ 117 ∷ 103 ∷ 95 ∷ 97 ∷ 98 ∷ 98 ∷ 114 ∷ 101 ∷ 118 ∷ 0 ∷ 46 ∷ 100 ∷ 101 ∷ 98 ∷
    []) ++
    part_192 ++
    (28 ∷ 0 ∷ 0 ∷ 0 ∷ 0 ∷ 0 ∷ 0 ∷ 0 ∷ 0 ∷ 0 ∷ 0 ∷ 0 ∷ 0 ∷ 0 ∷ 0 ∷ 0 ∷ 1 ∷ 0 ∷ 0 ∷ 0 ∷ 0 ∷ 0 ∷ 0 ∷ 0 ∷
    0 ∷ 0 ∷ 0 ∷ 0 ∷ 0 ∷ 0 ∷ 0 ∷ 0 ∷ 15 ∷ 0 ∷ 0 ∷ 0 ∷ 1 ∷ 0 ∷ 0 ∷ 0 ∷ 0 ∷ 0 ∷ 0 ∷ 0 ∷ 0 ∷ 0 ∷ 0 ∷ 0 ∷
    0 ∷ 0 ∷ 0 ∷ 0 ∷ 0 ∷ 0 ∷ 0 ∷ 0 ∷ 92 ∷ 0 ∷ 0 ∷ 0 ∷ 0 ∷ 0 ∷ 0 ∷ 0 ∷ 81 ∷ 0 ∷ 0 ∷ 0 ∷ 0 ∷ 0 ∷ 0 ∷ 0 ∷
    0 ∷ 0 ∷ 0 ∷ 0 ∷ 0 ∷ 0 ∷ 0 ∷ 0 ∷ 1 ∷ 0 ∷ 0 ∷ 0 ∷ 0 ∷ 0 ∷ 0 ∷ 0 ∷ 0 ∷ 0 ∷ 0 ∷ 0 ∷ 0 ∷ 0 ∷ 0 ∷ 0 ∷
    27 ∷ 0 ∷ 0 ∷ 0 ∷ 3 ∷ 0 ∷ 0 ∷ 0 ∷ 0 ∷ 0 ∷ 0 ∷ 0 ∷ 0 ∷ 0 ∷ 0 ∷ 0 ∷ 0 ∷ 0 ∷ 0 ∷ 0 ∷ 0 ∷ 0 ∷ 0 ∷ 0 ∷
    173 ∷ 0 ∷ 0 ∷ 0 ∷ 0 ∷ 0 ∷ 0 ∷ 0 ∷ 37 ∷ 0 ∷ 0 ∷ 0 ∷ 0 ∷ 0 ∷ 0 ∷ 0 ∷ 0 ∷ 0 ∷ 0 ∷ 0 ∷ 0 ∷ 0 ∷ 0 ∷ 0 ∷
    1 ∷ 0 ∷ 0 ∷ 0 ∷ 0 ∷ 0 ∷ 0 ∷ 0 ∷ 0 ∷ 0 ∷ 0 ∷ 0 ∷ 0 ∷ 0 ∷ 0 ∷ 0 ∷
    [])

unfoldable pub file_15 : List ℕ
file_15 =
    (127 ∷ 69 ∷ 76 ∷ 70 ∷ 2 ∷ 1 ∷ 1 ∷ 0 ∷ 0 ∷ 0 ∷ 0 ∷ 0 ∷ 0 ∷ 0 ∷ 0 ∷ 0 ∷ 2 ∷ 0 ∷ 62 ∷ 0 ∷ 1 ∷ 0 ∷ 0 ∷ 0 ∷
    0 ∷ 0 ∷ 0 ∷ 0 ∷ 0 ∷ 0 ∷ 0 ∷ 0 ∷ 0 ∷ 0 ∷ 0 ∷ 0 ∷ 0 ∷ 0 ∷ 0 ∷ 0 ∷ 152 ∷ 0 ∷ 0 ∷ 0 ∷ 0 ∷ 0 ∷ 0 ∷ 0 ∷
    0 ∷ 0 ∷ 0 ∷ 0 ∷ 64 ∷ 0 ∷ 0 ∷ 0 ∷ 0 ∷ 0 ∷ 64 ∷ 0 ∷ 4 ∷ 0 ∷ 3 ∷ 0 ∷ 1 ∷ 17 ∷ 1 ∷ 3 ∷ 8 ∷ 19 ∷ 11 ∷ 0 ∷
    0 ∷ 2 ∷ 46 ∷ 1 ∷ 3 ∷ 8 ∷ 0 ∷ 0 ∷ 3 ∷ 22 ∷ 0 ∷ 3 ∷ 8 ∷ 0 ∷ 0 ∷ 0 ∷ 20 ∷ 0 ∷ 0 ∷ 0 ∷ 5 ∷ 0 ∷ 1 ∷ 8 ∷
    0 ∷ 0 ∷ 0 ∷ 0 ∷ 1 ∷ 120 ∷ 0 ∷ 13 ∷ 2 ∷ 102 ∷ 0 ∷ 3 ∷ 113 ∷ 0 ∷ 0 ∷ 0 ∷ 0 ∷ 46 ∷ 100 ∷ 101 ∷ 98 ∷ 117 ∷ 103 ∷ 95 ∷
    []) ++
    part_202

-- what each row says
abbrev pub AdaNames : Type 0
AdaNames = record {
  ada_decodes___12_by_name : Prints file_0 (codes "name __12") 0 (codes "found 1\n0 10 2e function global name __12\n");
  ada_decodes__ada__ada_q_by_name : Prints file_1 (codes "name _ada__ada_q") 0 (codes "found 1\n0 10 2e function global name _ada__ada_q\n");
  ada_decodes__ada__ada_q_by_simple : Prints file_1 (codes "simple _ada__ada_q") 0 (codes "found 1\n0 10 2e function global name _ada__ada_q\n");
  ada_decodes__ada__by_name : Prints file_2 (codes "name _ada_") 0 (codes "found 1\n0 10 2e function global name _ada_\n");
  ada_decodes__ada_q_by_name : Prints file_3 (codes "name _ada_Q") 0 (codes "found 1\n0 10 2e function global name _ada_Q\n");
  ada_decodes__ada_x__y_by_name : Prints file_4 (codes "name x.y") 0 (codes "found 1\n0 10 2e function global name x.y\n");
  ada_decodes__ada_x__y_by_simple : Prints file_4 (codes "simple y") 0 (codes "found 1\n0 10 2e function global name x.y\n");
  ada_decodes_a1__b_c_by_name : Prints file_5 (codes "name a1.b_c") 0 (codes "found 1\n0 10 2e function global name a1.b_c\n");
  ada_decodes_a1__b_c_by_simple : Prints file_5 (codes "simple b_c") 0 (codes "found 1\n0 10 2e function global name a1.b_c\n");
  ada_decodes_a__1__2_by_name : Prints file_6 (codes "name a__1__2") 0 (codes "found 1\n0 10 2e function global name a__1__2\n");
  ada_decodes_a__1_by_name : Prints file_7 (codes "name a") 0 (codes "found 1\n0 10 2e function global name a\n");
  ada_decodes_a__1_by_simple : Prints file_7 (codes "simple a") 0 (codes "found 1\n0 10 2e function global name a\n");
  ada_decodes_a___b_by_name : Prints file_8 (codes "name a___b") 0 (codes "found 1\n0 10 2e function global name a___b\n");
  ada_decodes_a__b2_by_name : Prints file_9 (codes "name a.b2") 0 (codes "found 1\n0 10 2e function global name a.b2\n");
  ada_decodes_a__b2_by_simple : Prints file_9 (codes "simple b2") 0 (codes "found 1\n0 10 2e function global name a.b2\n");
  ada_decodes_a__b__c__12_by_name : Prints file_10 (codes "name a.b.c") 0 (codes "found 1\n0 10 2e function global name a.b.c\n");
  ada_decodes_a__b__c__12_by_simple : Prints file_10 (codes "simple c") 0 (codes "found 1\n0 10 2e function global name a.b.c\n");
  ada_decodes_a__b_by_name : Prints file_11 (codes "name A__b") 0 (codes "found 1\n0 10 2e function global name A__b\n");
  ada_decodes_a__by_name : Prints file_12 (codes "name a_") 0 (codes "found 1\n0 10 2e function global name a_\n");
  ada_decodes_x___by_name : Prints file_13 (codes "name x__") 0 (codes "found 1\n0 10 2e function global name x__\n");
  ada_decodes_x___by_simple : Prints file_13 (codes "simple x__") 0 (codes "found 1\n0 10 2e function global name x__\n");
  ada_main_procedure : Prints file_14 (codes "name demo") 0 (codes "found 1\n0 14 2e function global name demo\n");
  ada_name_that_stays : Prints file_14 (codes "name pkg___XVE") 0 (codes "found 1\n0 45 16 type static name pkg___XVE\n");
  ada_overloaded_procedure : Prints file_14 (codes "simple proc") 0 (codes "found 1\n0 2b 2e function global name pkg.proc\n");
  inside_an_ada_subprogram : Prints file_15 (codes "name q") 0 (codes "found 1\n0 13 16 type static name q\n");
}
