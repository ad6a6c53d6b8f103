-- Written by tools/gen_vectors.py; not to be changed by hand.
-- The first fault of the forms of attributes.
use Rattle.std.specs.Prelude.{ℕ, List, [], ◌∷◌, ◌++◌, codes}
use Rattle.index_vectors.specs.Parts2.{part_53}
use Rattle.index_vectors.specs.Parts3.{part_104, part_106, part_109, part_113, part_115, part_120}
use Rattle.index_vectors.specs.Parts4.{part_125, part_129, part_152}
use Rattle.index_vectors.specs.Parts6.{part_252, part_253}
use Rattle.index_vectors.specs.Says.{Prints}

unfoldable pub file_0 : List ℕ
file_0 =
    (127 ∷ 69 ∷ 76 ∷ 70 ∷ 2 ∷ 1 ∷ 1 ∷ 0 ∷ 0 ∷ 0 ∷ 0 ∷ 0 ∷ 0 ∷ 0 ∷ 0 ∷ 0 ∷ 2 ∷ 0 ∷ 62 ∷ 0 ∷ 1 ∷ 0 ∷ 0 ∷ 0 ∷
    0 ∷ 0 ∷ 0 ∷ 0 ∷ 0 ∷ 0 ∷ 0 ∷ 0 ∷ 0 ∷ 0 ∷ 0 ∷ 0 ∷ 0 ∷ 0 ∷ 0 ∷ 0 ∷ 184 ∷ 0 ∷ 0 ∷ 0 ∷ 0 ∷ 0 ∷ 0 ∷ 0 ∷
    0 ∷ 0 ∷ 0 ∷ 0 ∷ 64 ∷ 0 ∷ 0 ∷ 0 ∷ 0 ∷ 0 ∷ 64 ∷ 0 ∷ 4 ∷ 0 ∷ 3 ∷ 0 ∷ 1 ∷ 17 ∷ 1 ∷ 3 ∷ 2 ∷ 19 ∷ 11 ∷ 17 ∷
    []) ++
    part_53

unfoldable pub file_1 : List ℕ
file_1 =
    (127 ∷ 69 ∷ 76 ∷ 70 ∷ 2 ∷ 1 ∷ 1 ∷ 0 ∷ 0 ∷ 0 ∷ 0 ∷ 0 ∷ 0 ∷ 0 ∷ 0 ∷ 0 ∷ 2 ∷ 0 ∷ 62 ∷ 0 ∷ 1 ∷ 0 ∷ 0 ∷ 0 ∷
    0 ∷ 0 ∷ 0 ∷ 0 ∷ 0 ∷ 0 ∷ 0 ∷ 0 ∷ 0 ∷ 0 ∷ 0 ∷ 0 ∷ 0 ∷ 0 ∷ 0 ∷ 0 ∷ 184 ∷ 0 ∷ 0 ∷ 0 ∷ 0 ∷ 0 ∷ 0 ∷ 0 ∷
    0 ∷ 0 ∷ 0 ∷ 0 ∷ 64 ∷ 0 ∷ 0 ∷ 0 ∷ 0 ∷ 0 ∷ 64 ∷ 0 ∷ 4 ∷ 0 ∷ 3 ∷ 0 ∷ 1 ∷ 17 ∷ 1 ∷ 3 ∷ 28 ∷ 19 ∷ 11 ∷ 17 ∷
    []) ++
    part_53

unfoldable pub file_2 : List ℕ
file_2 =
    (127 ∷ 69 ∷ 76 ∷ 70 ∷ 2 ∷ 1 ∷ 1 ∷ 0 ∷ 0 ∷ 0 ∷ 0 ∷ 0 ∷ 0 ∷ 0 ∷ 0 ∷ 0 ∷ 2 ∷ 0 ∷ 62 ∷ 0 ∷ 1 ∷ 0 ∷ 0 ∷ 0 ∷
    0 ∷ 0 ∷ 0 ∷ 0 ∷ 0 ∷ 0 ∷ 0 ∷ 0 ∷ 0 ∷ 0 ∷ 0 ∷ 0 ∷ 0 ∷ 0 ∷ 0 ∷ 0 ∷ 184 ∷ 0 ∷ 0 ∷ 0 ∷ 0 ∷ 0 ∷ 0 ∷ 0 ∷
    0 ∷ 0 ∷ 0 ∷ 0 ∷ 64 ∷ 0 ∷ 0 ∷ 0 ∷ 0 ∷ 0 ∷ 64 ∷ 0 ∷ 4 ∷ 0 ∷ 3 ∷ 0 ∷ 1 ∷ 17 ∷ 1 ∷ 3 ∷ 8 ∷ 19 ∷ 11 ∷ 17 ∷
    1 ∷ 18 ∷ 6 ∷ 0 ∷ 0 ∷ 2 ∷ 46 ∷ 0 ∷ 73 ∷ 130 ∷ 62 ∷ 3 ∷ 8 ∷ 63 ∷ 25 ∷ 17 ∷ 1 ∷ 18 ∷ 6 ∷ 0 ∷ 0 ∷ 0 ∷ 45 ∷ 0 ∷
    []) ++
    part_106

unfoldable pub file_3 : List ℕ
file_3 =
    (127 ∷ 69 ∷ 76 ∷ 70 ∷ 2 ∷ 1 ∷ 1 ∷ 0 ∷ 0 ∷ 0 ∷ 0 ∷ 0 ∷ 0 ∷ 0 ∷ 0 ∷ 0 ∷ 2 ∷ 0 ∷ 62 ∷ 0 ∷ 1 ∷ 0 ∷ 0 ∷ 0 ∷
    0 ∷ 0 ∷ 0 ∷ 0 ∷ 0 ∷ 0 ∷ 0 ∷ 0 ∷ 0 ∷ 0 ∷ 0 ∷ 0 ∷ 0 ∷ 0 ∷ 0 ∷ 0 ∷ 184 ∷ 0 ∷ 0 ∷ 0 ∷ 0 ∷ 0 ∷ 0 ∷ 0 ∷
    0 ∷ 0 ∷ 0 ∷ 0 ∷ 64 ∷ 0 ∷ 0 ∷ 0 ∷ 0 ∷ 0 ∷ 64 ∷ 0 ∷ 4 ∷ 0 ∷ 3 ∷ 0 ∷ 1 ∷ 17 ∷ 1 ∷ 3 ∷ 8 ∷ 19 ∷ 11 ∷ 17 ∷
    1 ∷ 18 ∷ 6 ∷ 0 ∷ 0 ∷ 2 ∷ 46 ∷ 0 ∷ 73 ∷ 160 ∷ 62 ∷ 3 ∷ 8 ∷ 63 ∷ 25 ∷ 17 ∷ 1 ∷ 18 ∷ 6 ∷ 0 ∷ 0 ∷ 0 ∷ 49 ∷ 0 ∷
    0 ∷ 0 ∷ 5 ∷ 0 ∷ 1 ∷ 8 ∷ 0 ∷ 0 ∷ 0 ∷ 0 ∷ 1 ∷ 97 ∷ 46 ∷ 99 ∷ 0 ∷ 12 ∷ 0 ∷ 16 ∷ 0 ∷ 0 ∷ 0 ∷ 0 ∷ 0 ∷ 0 ∷
    32 ∷ 0 ∷ 0 ∷ 0 ∷ 2 ∷ 0 ∷ 0 ∷ 0 ∷ 0 ∷ 109 ∷ 97 ∷ 105 ∷ 110 ∷ 0 ∷ 0 ∷ 16 ∷ 0 ∷ 0 ∷ 0 ∷ 0 ∷ 0 ∷ 0 ∷ 32 ∷ 0 ∷
    0 ∷ 0 ∷ 0 ∷ 0 ∷ 46 ∷ 100 ∷ 101 ∷ 98 ∷ 117 ∷ 103 ∷ 95 ∷ 97 ∷ 98 ∷ 98 ∷ 114 ∷ 101 ∷ 118 ∷ 0 ∷ 46 ∷ 100 ∷ 101 ∷ 98 ∷ 117 ∷ 103 ∷
    95 ∷ 105 ∷ 110 ∷ 102 ∷ 111 ∷ 0 ∷ 46 ∷ 115 ∷ 104 ∷ 115 ∷ 116 ∷ 114 ∷ 116 ∷ 97 ∷ 98 ∷ 0 ∷ 0 ∷ 0 ∷ 0 ∷ 0 ∷ 0 ∷ 0 ∷ 0 ∷ 0 ∷
    []) ++
    part_104 ++
    (94 ∷ 0 ∷ 0 ∷ 0 ∷ 0 ∷ 0 ∷ 0 ∷ 0 ∷ 53 ∷ 0 ∷ 0 ∷ 0 ∷ 0 ∷ 0 ∷ 0 ∷ 0 ∷ 0 ∷ 0 ∷ 0 ∷ 0 ∷ 0 ∷ 0 ∷ 0 ∷ 0 ∷
    []) ++
    part_109

unfoldable pub file_4 : List ℕ
file_4 =
    (127 ∷ 69 ∷ 76 ∷ 70 ∷ 2 ∷ 1 ∷ 1 ∷ 0 ∷ 0 ∷ 0 ∷ 0 ∷ 0 ∷ 0 ∷ 0 ∷ 0 ∷ 0 ∷ 2 ∷ 0 ∷ 62 ∷ 0 ∷ 1 ∷ 0 ∷ 0 ∷ 0 ∷
    0 ∷ 0 ∷ 0 ∷ 0 ∷ 0 ∷ 0 ∷ 0 ∷ 0 ∷ 0 ∷ 0 ∷ 0 ∷ 0 ∷ 0 ∷ 0 ∷ 0 ∷ 0 ∷ 184 ∷ 0 ∷ 0 ∷ 0 ∷ 0 ∷ 0 ∷ 0 ∷ 0 ∷
    0 ∷ 0 ∷ 0 ∷ 0 ∷ 64 ∷ 0 ∷ 0 ∷ 0 ∷ 0 ∷ 0 ∷ 64 ∷ 0 ∷ 4 ∷ 0 ∷ 3 ∷ 0 ∷ 1 ∷ 17 ∷ 1 ∷ 3 ∷ 8 ∷ 19 ∷ 11 ∷ 17 ∷
    1 ∷ 18 ∷ 6 ∷ 0 ∷ 0 ∷ 2 ∷ 46 ∷ 0 ∷ 73 ∷ 0 ∷ 3 ∷ 8 ∷ 63 ∷ 25 ∷ 17 ∷ 1 ∷ 18 ∷ 6 ∷ 0 ∷ 0 ∷ 0 ∷ 45 ∷ 0 ∷ 0 ∷
    []) ++
    part_113

unfoldable pub file_5 : List ℕ
file_5 =
    (127 ∷ 69 ∷ 76 ∷ 70 ∷ 2 ∷ 1 ∷ 1 ∷ 0 ∷ 0 ∷ 0 ∷ 0 ∷ 0 ∷ 0 ∷ 0 ∷ 0 ∷ 0 ∷ 2 ∷ 0 ∷ 62 ∷ 0 ∷ 1 ∷ 0 ∷ 0 ∷ 0 ∷
    0 ∷ 0 ∷ 0 ∷ 0 ∷ 0 ∷ 0 ∷ 0 ∷ 0 ∷ 0 ∷ 0 ∷ 0 ∷ 0 ∷ 0 ∷ 0 ∷ 0 ∷ 0 ∷ 184 ∷ 0 ∷ 0 ∷ 0 ∷ 0 ∷ 0 ∷ 0 ∷ 0 ∷
    0 ∷ 0 ∷ 0 ∷ 0 ∷ 64 ∷ 0 ∷ 0 ∷ 0 ∷ 0 ∷ 0 ∷ 64 ∷ 0 ∷ 4 ∷ 0 ∷ 3 ∷ 0 ∷ 1 ∷ 17 ∷ 1 ∷ 3 ∷ 8 ∷ 19 ∷ 11 ∷ 17 ∷
    1 ∷ 18 ∷ 6 ∷ 0 ∷ 0 ∷ 2 ∷ 46 ∷ 0 ∷ 73 ∷ 2 ∷ 3 ∷ 8 ∷ 63 ∷ 25 ∷ 17 ∷ 1 ∷ 18 ∷ 6 ∷ 0 ∷ 0 ∷ 0 ∷ 45 ∷ 0 ∷ 0 ∷
    []) ++
    part_113

unfoldable pub file_6 : List ℕ
file_6 =
    (127 ∷ 69 ∷ 76 ∷ 70 ∷ 2 ∷ 1 ∷ 1 ∷ 0 ∷ 0 ∷ 0 ∷ 0 ∷ 0 ∷ 0 ∷ 0 ∷ 0 ∷ 0 ∷ 2 ∷ 0 ∷ 62 ∷ 0 ∷ 1 ∷ 0 ∷ 0 ∷ 0 ∷
    0 ∷ 0 ∷ 0 ∷ 0 ∷ 0 ∷ 0 ∷ 0 ∷ 0 ∷ 0 ∷ 0 ∷ 0 ∷ 0 ∷ 0 ∷ 0 ∷ 0 ∷ 0 ∷ 184 ∷ 0 ∷ 0 ∷ 0 ∷ 0 ∷ 0 ∷ 0 ∷ 0 ∷
    0 ∷ 0 ∷ 0 ∷ 0 ∷ 64 ∷ 0 ∷ 0 ∷ 0 ∷ 0 ∷ 0 ∷ 64 ∷ 0 ∷ 4 ∷ 0 ∷ 3 ∷ 0 ∷ 1 ∷ 17 ∷ 1 ∷ 3 ∷ 8 ∷ 19 ∷ 11 ∷ 17 ∷
    1 ∷ 18 ∷ 6 ∷ 0 ∷ 0 ∷ 2 ∷ 46 ∷ 0 ∷ 73 ∷ 45 ∷ 3 ∷ 8 ∷ 63 ∷ 25 ∷ 17 ∷ 1 ∷ 18 ∷ 6 ∷ 0 ∷ 0 ∷ 0 ∷ 45 ∷ 0 ∷ 0 ∷
    []) ++
    part_113

unfoldable pub file_7 : List ℕ
file_7 =
    part_252 ++
    (0 ∷ 0 ∷ 0 ∷ 2 ∷ 127 ∷ 109 ∷ 97 ∷ 105 ∷ 110 ∷ 0 ∷ 0 ∷ 16 ∷ 0 ∷ 0 ∷ 0 ∷ 0 ∷ 0 ∷ 0 ∷ 32 ∷ 0 ∷ 0 ∷ 0 ∷ 0 ∷ 0 ∷
    []) ++
    part_125

unfoldable pub file_8 : List ℕ
file_8 =
    part_252 ++
    (0 ∷ 0 ∷ 0 ∷ 2 ∷ 33 ∷ 109 ∷ 97 ∷ 105 ∷ 110 ∷ 0 ∷ 0 ∷ 16 ∷ 0 ∷ 0 ∷ 0 ∷ 0 ∷ 0 ∷ 0 ∷ 32 ∷ 0 ∷ 0 ∷ 0 ∷ 0 ∷ 0 ∷
    []) ++
    part_125

unfoldable pub file_9 : List ℕ
file_9 =
    part_253 ++
    (0 ∷ 2 ∷ 22 ∷ 109 ∷ 97 ∷ 105 ∷ 110 ∷ 0 ∷ 0 ∷ 16 ∷ 0 ∷ 0 ∷ 0 ∷ 0 ∷ 0 ∷ 0 ∷ 32 ∷ 0 ∷ 0 ∷ 0 ∷ 0 ∷ 0 ∷ 46 ∷ 100 ∷
    []) ++
    part_129

unfoldable pub file_10 : List ℕ
file_10 =
    (127 ∷ 69 ∷ 76 ∷ 70 ∷ 2 ∷ 1 ∷ 1 ∷ 0 ∷ 0 ∷ 0 ∷ 0 ∷ 0 ∷ 0 ∷ 0 ∷ 0 ∷ 0 ∷ 2 ∷ 0 ∷ 62 ∷ 0 ∷ 1 ∷ 0 ∷ 0 ∷ 0 ∷
    0 ∷ 0 ∷ 0 ∷ 0 ∷ 0 ∷ 0 ∷ 0 ∷ 0 ∷ 0 ∷ 0 ∷ 0 ∷ 0 ∷ 0 ∷ 0 ∷ 0 ∷ 0 ∷ 160 ∷ 0 ∷ 0 ∷ 0 ∷ 0 ∷ 0 ∷ 0 ∷ 0 ∷
    0 ∷ 0 ∷ 0 ∷ 0 ∷ 64 ∷ 0 ∷ 0 ∷ 0 ∷ 0 ∷ 0 ∷ 64 ∷ 0 ∷ 4 ∷ 0 ∷ 3 ∷ 0 ∷ 1 ∷ 17 ∷ 1 ∷ 3 ∷ 8 ∷ 19 ∷ 11 ∷ 17 ∷
    1 ∷ 18 ∷ 6 ∷ 0 ∷ 0 ∷ 2 ∷ 46 ∷ 0 ∷ 73 ∷ 127 ∷ 73 ∷ 6 ∷ 0 ∷ 0 ∷ 0 ∷ 28 ∷ 0 ∷ 0 ∷ 0 ∷ 5 ∷ 0 ∷ 1 ∷ 8 ∷ 0 ∷
    []) ++
    part_152

unfoldable pub file_11 : List ℕ
file_11 =
    (127 ∷ 69 ∷ 76 ∷ 70 ∷ 2 ∷ 1 ∷ 1 ∷ 0 ∷ 0 ∷ 0 ∷ 0 ∷ 0 ∷ 0 ∷ 0 ∷ 0 ∷ 0 ∷ 2 ∷ 0 ∷ 62 ∷ 0 ∷ 1 ∷ 0 ∷ 0 ∷ 0 ∷
    0 ∷ 0 ∷ 0 ∷ 0 ∷ 0 ∷ 0 ∷ 0 ∷ 0 ∷ 0 ∷ 0 ∷ 0 ∷ 0 ∷ 0 ∷ 0 ∷ 0 ∷ 0 ∷ 184 ∷ 0 ∷ 0 ∷ 0 ∷ 0 ∷ 0 ∷ 0 ∷ 0 ∷
    0 ∷ 0 ∷ 0 ∷ 0 ∷ 64 ∷ 0 ∷ 0 ∷ 0 ∷ 0 ∷ 0 ∷ 64 ∷ 0 ∷ 4 ∷ 0 ∷ 3 ∷ 0 ∷ 1 ∷ 17 ∷ 1 ∷ 3 ∷ 8 ∷ 19 ∷ 11 ∷ 17 ∷
    1 ∷ 18 ∷ 6 ∷ 0 ∷ 0 ∷ 2 ∷ 46 ∷ 0 ∷ 73 ∷ 29 ∷ 3 ∷ 8 ∷ 63 ∷ 25 ∷ 17 ∷ 1 ∷ 18 ∷ 6 ∷ 0 ∷ 0 ∷ 0 ∷ 49 ∷ 0 ∷ 0 ∷
    []) ++
    part_115

unfoldable pub file_12 : List ℕ
file_12 =
    (127 ∷ 69 ∷ 76 ∷ 70 ∷ 2 ∷ 1 ∷ 1 ∷ 0 ∷ 0 ∷ 0 ∷ 0 ∷ 0 ∷ 0 ∷ 0 ∷ 0 ∷ 0 ∷ 2 ∷ 0 ∷ 62 ∷ 0 ∷ 1 ∷ 0 ∷ 0 ∷ 0 ∷
    0 ∷ 0 ∷ 0 ∷ 0 ∷ 0 ∷ 0 ∷ 0 ∷ 0 ∷ 0 ∷ 0 ∷ 0 ∷ 0 ∷ 0 ∷ 0 ∷ 0 ∷ 0 ∷ 184 ∷ 0 ∷ 0 ∷ 0 ∷ 0 ∷ 0 ∷ 0 ∷ 0 ∷
    0 ∷ 0 ∷ 0 ∷ 0 ∷ 64 ∷ 0 ∷ 0 ∷ 0 ∷ 0 ∷ 0 ∷ 64 ∷ 0 ∷ 4 ∷ 0 ∷ 3 ∷ 0 ∷ 1 ∷ 17 ∷ 1 ∷ 3 ∷ 8 ∷ 19 ∷ 11 ∷ 17 ∷
    1 ∷ 18 ∷ 6 ∷ 0 ∷ 0 ∷ 2 ∷ 46 ∷ 0 ∷ 73 ∷ 28 ∷ 3 ∷ 8 ∷ 63 ∷ 25 ∷ 17 ∷ 1 ∷ 18 ∷ 6 ∷ 0 ∷ 0 ∷ 0 ∷ 49 ∷ 0 ∷ 0 ∷
    []) ++
    part_115

unfoldable pub file_13 : List ℕ
file_13 =
    (127 ∷ 69 ∷ 76 ∷ 70 ∷ 2 ∷ 1 ∷ 1 ∷ 0 ∷ 0 ∷ 0 ∷ 0 ∷ 0 ∷ 0 ∷ 0 ∷ 0 ∷ 0 ∷ 2 ∷ 0 ∷ 62 ∷ 0 ∷ 1 ∷ 0 ∷ 0 ∷ 0 ∷
    0 ∷ 0 ∷ 0 ∷ 0 ∷ 0 ∷ 0 ∷ 0 ∷ 0 ∷ 0 ∷ 0 ∷ 0 ∷ 0 ∷ 0 ∷ 0 ∷ 0 ∷ 0 ∷ 192 ∷ 0 ∷ 0 ∷ 0 ∷ 0 ∷ 0 ∷ 0 ∷ 0 ∷
    0 ∷ 0 ∷ 0 ∷ 0 ∷ 64 ∷ 0 ∷ 0 ∷ 0 ∷ 0 ∷ 0 ∷ 64 ∷ 0 ∷ 4 ∷ 0 ∷ 3 ∷ 0 ∷ 1 ∷ 17 ∷ 1 ∷ 3 ∷ 8 ∷ 19 ∷ 11 ∷ 17 ∷
    1 ∷ 18 ∷ 6 ∷ 0 ∷ 0 ∷ 2 ∷ 46 ∷ 0 ∷ 73 ∷ 36 ∷ 3 ∷ 8 ∷ 63 ∷ 25 ∷ 17 ∷ 1 ∷ 18 ∷ 6 ∷ 0 ∷ 0 ∷ 0 ∷ 53 ∷ 0 ∷ 0 ∷
    0 ∷ 5 ∷ 0 ∷ 1 ∷ 8 ∷ 0 ∷ 0 ∷ 0 ∷ 0 ∷ 1 ∷ 97 ∷ 46 ∷ 99 ∷ 0 ∷ 12 ∷ 0 ∷ 16 ∷ 0 ∷ 0 ∷ 0 ∷ 0 ∷ 0 ∷ 0 ∷ 32 ∷
    0 ∷ 0 ∷ 0 ∷ 2 ∷ 0 ∷ 0 ∷ 0 ∷ 0 ∷ 0 ∷ 0 ∷ 0 ∷ 0 ∷ 109 ∷ 97 ∷ 105 ∷ 110 ∷ 0 ∷ 0 ∷ 16 ∷ 0 ∷ 0 ∷ 0 ∷ 0 ∷ 0 ∷
    []) ++
    part_120

unfoldable pub file_14 : List ℕ
file_14 =
    part_252 ++
    (0 ∷ 0 ∷ 0 ∷ 2 ∷ 28 ∷ 109 ∷ 97 ∷ 105 ∷ 110 ∷ 0 ∷ 0 ∷ 16 ∷ 0 ∷ 0 ∷ 0 ∷ 0 ∷ 0 ∷ 0 ∷ 32 ∷ 0 ∷ 0 ∷ 0 ∷ 0 ∷ 0 ∷
    []) ++
    part_125

-- what each row says
abbrev pub FormFaults : Type 0
FormFaults = record {
  debug_abbrev_byte_04_made_02 : Prints file_0 (codes "name main") 1 (codes "refused 12 c\n");
  debug_abbrev_byte_04_made_1c : Prints file_1 (codes "name main") 1 (codes "refused 18 c\n");
  form_gnu_addr_index : Prints file_2 (codes "name main") 1 (codes "refused 12 1e\n");
  form_gnu_ref_alt : Prints file_3 (codes "name main") 1 (codes "refused 12 1e\n");
  form_of_number_0 : Prints file_4 (codes "name main") 1 (codes "refused 12 1e\n");
  form_of_number_2 : Prints file_5 (codes "name main") 1 (codes "refused 12 1e\n");
  form_of_number_2d : Prints file_6 (codes "name main") 1 (codes "refused 12 1e\n");
  form_indirect_unknown : Prints file_7 (codes "name main") 1 (codes "refused 12 1e\n");
  form_indirect_implicit_const : Prints file_8 (codes "name main") 1 (codes "refused 12 1e\n");
  indirect_of_indirect : Prints file_9 (codes "name main") 1 (codes "refused 12 1e\n");
  form_unknown_before_a_cut_one : Prints file_10 (codes "name main") 1 (codes "refused 12 1e\n");
  form_strp_sup : Prints file_11 (codes "name main") 1 (codes "refused 18 1e\n");
  form_ref_sup4 : Prints file_12 (codes "name main") 1 (codes "refused 18 1e\n");
  form_ref_sup8 : Prints file_13 (codes "name main") 1 (codes "refused 18 1e\n");
  form_indirect_supplementary : Prints file_14 (codes "name main") 1 (codes "refused 18 1e\n");
}
