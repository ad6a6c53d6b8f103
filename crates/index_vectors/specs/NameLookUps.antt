-- Written by tools/gen_vectors.py; not to be changed by hand.
-- Look-ups in a `.debug_names`.
use Rattle.std.specs.Prelude.{ℕ, List, [], ◌∷◌, codes}
use Rattle.index_vectors.specs.Says.{NamesPrint}

unfoldable pub file_0 : List ℕ
file_0 =
    68 ∷ 0 ∷ 0 ∷ 0 ∷ 5 ∷ 0 ∷ 0 ∷ 0 ∷ 1 ∷ 0 ∷ 0 ∷ 0 ∷ 0 ∷ 0 ∷ 0 ∷ 0 ∷ 0 ∷ 0 ∷ 0 ∷ 0 ∷ 1 ∷ 0 ∷ 0 ∷ 0 ∷
    1 ∷ 0 ∷ 0 ∷ 0 ∷ 9 ∷ 0 ∷ 0 ∷ 0 ∷ 0 ∷ 0 ∷ 0 ∷ 0 ∷ 0 ∷ 0 ∷ 0 ∷ 0 ∷ 1 ∷ 0 ∷ 0 ∷ 0 ∷ 106 ∷ 127 ∷ 154 ∷ 124 ∷
    0 ∷ 0 ∷ 0 ∷ 0 ∷ 0 ∷ 0 ∷ 0 ∷ 0 ∷ 1 ∷ 46 ∷ 1 ∷ 15 ∷ 3 ∷ 19 ∷ 0 ∷ 0 ∷ 0 ∷ 1 ∷ 0 ∷ 30 ∷ 0 ∷ 0 ∷ 0 ∷ 0 ∷
    []

unfoldable pub file_1 : List ℕ
file_1 =
    109 ∷ 97 ∷ 105 ∷ 110 ∷ 0 ∷
    []

unfoldable pub file_2 : List ℕ
file_2 =
    68 ∷ 0 ∷ 0 ∷ 0 ∷ 5 ∷ 0 ∷ 0 ∷ 0 ∷ 1 ∷ 0 ∷ 0 ∷ 0 ∷ 0 ∷ 0 ∷ 0 ∷ 0 ∷ 0 ∷ 0 ∷ 0 ∷ 0 ∷ 1 ∷ 0 ∷ 0 ∷ 0 ∷
    1 ∷ 0 ∷ 0 ∷ 0 ∷ 9 ∷ 0 ∷ 0 ∷ 0 ∷ 0 ∷ 0 ∷ 0 ∷ 0 ∷ 0 ∷ 0 ∷ 0 ∷ 0 ∷ 1 ∷ 0 ∷ 0 ∷ 0 ∷ 106 ∷ 127 ∷ 154 ∷ 124 ∷
    0 ∷ 0 ∷ 0 ∷ 0 ∷ 6 ∷ 0 ∷ 0 ∷ 0 ∷ 1 ∷ 46 ∷ 1 ∷ 15 ∷ 3 ∷ 19 ∷ 0 ∷ 0 ∷ 0 ∷ 1 ∷ 0 ∷ 30 ∷ 0 ∷ 0 ∷ 0 ∷ 0 ∷
    []

unfoldable pub file_3 : List ℕ
file_3 =
    63 ∷ 0 ∷ 0 ∷ 0 ∷ 5 ∷ 0 ∷ 0 ∷ 0 ∷ 1 ∷ 0 ∷ 0 ∷ 0 ∷ 0 ∷ 0 ∷ 0 ∷ 0 ∷ 0 ∷ 0 ∷ 0 ∷ 0 ∷ 0 ∷ 0 ∷ 0 ∷ 0 ∷
    1 ∷ 0 ∷ 0 ∷ 0 ∷ 11 ∷ 0 ∷ 0 ∷ 0 ∷ 0 ∷ 0 ∷ 0 ∷ 0 ∷ 0 ∷ 0 ∷ 0 ∷ 0 ∷ 0 ∷ 0 ∷ 0 ∷ 0 ∷ 0 ∷ 0 ∷ 0 ∷ 0 ∷
    1 ∷ 46 ∷ 1 ∷ 11 ∷ 1 ∷ 11 ∷ 3 ∷ 19 ∷ 0 ∷ 0 ∷ 0 ∷ 1 ∷ 0 ∷ 5 ∷ 30 ∷ 0 ∷ 0 ∷ 0 ∷ 0 ∷
    []

unfoldable pub file_4 : List ℕ
file_4 =
    63 ∷ 0 ∷ 0 ∷ 0 ∷ 5 ∷ 0 ∷ 0 ∷ 0 ∷ 1 ∷ 0 ∷ 0 ∷ 0 ∷ 0 ∷ 0 ∷ 0 ∷ 0 ∷ 0 ∷ 0 ∷ 0 ∷ 0 ∷ 0 ∷ 0 ∷ 0 ∷ 0 ∷
    1 ∷ 0 ∷ 0 ∷ 0 ∷ 13 ∷ 0 ∷ 0 ∷ 0 ∷ 0 ∷ 0 ∷ 0 ∷ 0 ∷ 0 ∷ 0 ∷ 0 ∷ 0 ∷ 0 ∷ 0 ∷ 0 ∷ 0 ∷ 0 ∷ 0 ∷ 0 ∷ 0 ∷
    1 ∷ 46 ∷ 3 ∷ 19 ∷ 0 ∷ 0 ∷ 1 ∷ 36 ∷ 3 ∷ 19 ∷ 0 ∷ 0 ∷ 0 ∷ 1 ∷ 30 ∷ 0 ∷ 0 ∷ 0 ∷ 0 ∷
    []

unfoldable pub file_5 : List ℕ
file_5 =
    72 ∷ 0 ∷ 0 ∷ 0 ∷ 5 ∷ 0 ∷ 0 ∷ 0 ∷ 1 ∷ 0 ∷ 0 ∷ 0 ∷ 1 ∷ 0 ∷ 0 ∷ 0 ∷ 1 ∷ 0 ∷ 0 ∷ 0 ∷ 0 ∷ 0 ∷ 0 ∷ 0 ∷
    1 ∷ 0 ∷ 0 ∷ 0 ∷ 9 ∷ 0 ∷ 0 ∷ 0 ∷ 0 ∷ 0 ∷ 0 ∷ 0 ∷ 0 ∷ 0 ∷ 0 ∷ 0 ∷ 0 ∷ 0 ∷ 0 ∷ 0 ∷ 0 ∷ 0 ∷ 0 ∷ 0 ∷
    0 ∷ 0 ∷ 0 ∷ 0 ∷ 0 ∷ 0 ∷ 0 ∷ 0 ∷ 0 ∷ 0 ∷ 0 ∷ 0 ∷ 1 ∷ 19 ∷ 2 ∷ 11 ∷ 3 ∷ 19 ∷ 0 ∷ 0 ∷ 0 ∷ 1 ∷ 1 ∷ 30 ∷
    0 ∷ 0 ∷ 0 ∷ 0 ∷
    []

unfoldable pub file_6 : List ℕ
file_6 =
    64 ∷ 0 ∷ 0 ∷ 0 ∷ 5 ∷ 0 ∷ 0 ∷ 0 ∷ 1 ∷ 0 ∷ 0 ∷ 0 ∷ 1 ∷ 0 ∷ 0 ∷ 0 ∷ 0 ∷ 0 ∷ 0 ∷ 0 ∷ 0 ∷ 0 ∷ 0 ∷ 0 ∷
    1 ∷ 0 ∷ 0 ∷ 0 ∷ 9 ∷ 0 ∷ 0 ∷ 0 ∷ 0 ∷ 0 ∷ 0 ∷ 0 ∷ 0 ∷ 0 ∷ 0 ∷ 0 ∷ 0 ∷ 0 ∷ 0 ∷ 0 ∷ 0 ∷ 0 ∷ 0 ∷ 0 ∷
    0 ∷ 0 ∷ 0 ∷ 0 ∷ 1 ∷ 19 ∷ 2 ∷ 11 ∷ 3 ∷ 19 ∷ 0 ∷ 0 ∷ 0 ∷ 1 ∷ 0 ∷ 30 ∷ 0 ∷ 0 ∷ 0 ∷ 0 ∷
    []

unfoldable pub file_7 : List ℕ
file_7 =
    68 ∷ 0 ∷ 0 ∷ 0 ∷ 5 ∷ 0 ∷ 0 ∷ 0 ∷ 1 ∷ 0 ∷ 0 ∷ 0 ∷ 0 ∷ 0 ∷ 0 ∷ 0 ∷ 0 ∷ 0 ∷ 0 ∷ 0 ∷ 1 ∷ 0 ∷ 0 ∷ 0 ∷
    1 ∷ 0 ∷ 0 ∷ 0 ∷ 9 ∷ 0 ∷ 0 ∷ 0 ∷ 0 ∷ 0 ∷ 0 ∷ 0 ∷ 0 ∷ 0 ∷ 0 ∷ 0 ∷ 1 ∷ 0 ∷ 0 ∷ 0 ∷ 0 ∷ 0 ∷ 0 ∷ 0 ∷
    0 ∷ 0 ∷ 0 ∷ 0 ∷ 0 ∷ 0 ∷ 0 ∷ 0 ∷ 1 ∷ 46 ∷ 1 ∷ 15 ∷ 3 ∷ 19 ∷ 0 ∷ 0 ∷ 0 ∷ 1 ∷ 0 ∷ 30 ∷ 0 ∷ 0 ∷ 0 ∷ 0 ∷
    []

unfoldable pub file_8 : List ℕ
file_8 =
    195 ∷ 169 ∷ 120 ∷ 0 ∷
    []

unfoldable pub file_9 : List ℕ
file_9 =
    54 ∷ 0 ∷ 0 ∷ 0 ∷ 5 ∷ 0 ∷ 0 ∷ 0 ∷ 1 ∷ 0 ∷ 0 ∷ 0 ∷ 0 ∷ 0 ∷ 0 ∷ 0 ∷ 0 ∷ 0 ∷ 0 ∷ 0 ∷ 0 ∷ 0 ∷ 0 ∷ 0 ∷
    1 ∷ 0 ∷ 0 ∷ 0 ∷ 7 ∷ 0 ∷ 0 ∷ 0 ∷ 0 ∷ 0 ∷ 0 ∷ 0 ∷ 0 ∷ 0 ∷ 0 ∷ 0 ∷ 0 ∷ 0 ∷ 0 ∷ 0 ∷ 0 ∷ 0 ∷ 0 ∷ 0 ∷
    1 ∷ 46 ∷ 3 ∷ 12 ∷ 0 ∷ 0 ∷ 0 ∷ 1 ∷ 30 ∷ 0 ∷
    []

unfoldable pub file_10 : List ℕ
file_10 =
    54 ∷ 0 ∷ 0 ∷ 0 ∷ 5 ∷ 0 ∷ 0 ∷ 0 ∷ 1 ∷ 0 ∷ 0 ∷ 0 ∷ 0 ∷ 0 ∷ 0 ∷ 0 ∷ 0 ∷ 0 ∷ 0 ∷ 0 ∷ 0 ∷ 0 ∷ 0 ∷ 0 ∷
    1 ∷ 0 ∷ 0 ∷ 0 ∷ 7 ∷ 0 ∷ 0 ∷ 0 ∷ 0 ∷ 0 ∷ 0 ∷ 0 ∷ 0 ∷ 0 ∷ 0 ∷ 0 ∷ 0 ∷ 0 ∷ 0 ∷ 0 ∷ 0 ∷ 0 ∷ 0 ∷ 0 ∷
    1 ∷ 46 ∷ 3 ∷ 13 ∷ 0 ∷ 0 ∷ 0 ∷ 1 ∷ 30 ∷ 0 ∷
    []

unfoldable pub file_11 : List ℕ
file_11 =
    37 ∷ 0 ∷ 0 ∷ 0 ∷ 5 ∷ 0 ∷ 0 ∷ 0 ∷ 1 ∷ 0 ∷ 0 ∷ 0 ∷ 0 ∷ 0 ∷ 0 ∷ 0 ∷ 0 ∷ 0 ∷ 0 ∷ 0 ∷ 0 ∷ 0 ∷ 0 ∷ 0 ∷
    0 ∷ 0 ∷ 0 ∷ 0 ∷ 1 ∷ 0 ∷ 0 ∷ 0 ∷ 0 ∷ 0 ∷ 0 ∷ 0 ∷ 0 ∷ 0 ∷ 0 ∷ 0 ∷ 0 ∷
    []

unfoldable pub file_12 : List ℕ
file_12 =
    []

unfoldable pub file_13 : List ℕ
file_13 =
    68 ∷ 0 ∷ 0 ∷ 0 ∷ 5 ∷ 0 ∷ 255 ∷ 255 ∷ 1 ∷ 0 ∷ 0 ∷ 0 ∷ 0 ∷ 0 ∷ 0 ∷ 0 ∷ 0 ∷ 0 ∷ 0 ∷ 0 ∷ 1 ∷ 0 ∷ 0 ∷ 0 ∷
    1 ∷ 0 ∷ 0 ∷ 0 ∷ 9 ∷ 0 ∷ 0 ∷ 0 ∷ 0 ∷ 0 ∷ 0 ∷ 0 ∷ 0 ∷ 0 ∷ 0 ∷ 0 ∷ 1 ∷ 0 ∷ 0 ∷ 0 ∷ 106 ∷ 127 ∷ 154 ∷ 124 ∷
    0 ∷ 0 ∷ 0 ∷ 0 ∷ 0 ∷ 0 ∷ 0 ∷ 0 ∷ 1 ∷ 46 ∷ 1 ∷ 15 ∷ 3 ∷ 19 ∷ 0 ∷ 0 ∷ 0 ∷ 1 ∷ 0 ∷ 30 ∷ 0 ∷ 0 ∷ 0 ∷ 0 ∷
    []

unfoldable pub file_14 : List ℕ
file_14 =
    69 ∷ 0 ∷ 0 ∷ 0 ∷ 5 ∷ 0 ∷ 0 ∷ 0 ∷ 1 ∷ 0 ∷ 0 ∷ 0 ∷ 0 ∷ 0 ∷ 0 ∷ 0 ∷ 0 ∷ 0 ∷ 0 ∷ 0 ∷ 0 ∷ 0 ∷ 0 ∷ 0 ∷
    1 ∷ 0 ∷ 0 ∷ 0 ∷ 11 ∷ 0 ∷ 0 ∷ 0 ∷ 0 ∷ 0 ∷ 0 ∷ 0 ∷ 0 ∷ 0 ∷ 0 ∷ 0 ∷ 0 ∷ 0 ∷ 0 ∷ 0 ∷ 0 ∷ 0 ∷ 0 ∷ 0 ∷
    1 ∷ 46 ∷ 4 ∷ 25 ∷ 5 ∷ 7 ∷ 3 ∷ 19 ∷ 0 ∷ 0 ∷ 0 ∷ 1 ∷ 17 ∷ 34 ∷ 51 ∷ 68 ∷ 85 ∷ 102 ∷ 119 ∷ 136 ∷ 30 ∷ 0 ∷ 0 ∷ 0 ∷
    0 ∷
    []

unfoldable pub file_15 : List ℕ
file_15 =
    68 ∷ 0 ∷ 0 ∷ 0 ∷ 5 ∷ 0 ∷ 0 ∷ 0 ∷ 1 ∷ 0 ∷ 0 ∷ 0 ∷ 0 ∷ 0 ∷ 0 ∷ 0 ∷ 0 ∷ 0 ∷ 0 ∷ 0 ∷ 1 ∷ 0 ∷ 0 ∷ 0 ∷
    1 ∷ 0 ∷ 0 ∷ 0 ∷ 9 ∷ 0 ∷ 0 ∷ 0 ∷ 0 ∷ 0 ∷ 0 ∷ 0 ∷ 0 ∷ 0 ∷ 0 ∷ 0 ∷ 1 ∷ 0 ∷ 0 ∷ 0 ∷ 106 ∷ 127 ∷ 154 ∷ 124 ∷
    100 ∷ 0 ∷ 0 ∷ 0 ∷ 0 ∷ 0 ∷ 0 ∷ 0 ∷ 1 ∷ 46 ∷ 1 ∷ 15 ∷ 3 ∷ 19 ∷ 0 ∷ 0 ∷ 0 ∷ 1 ∷ 0 ∷ 30 ∷ 0 ∷ 0 ∷ 0 ∷ 0 ∷
    []

unfoldable pub file_16 : List ℕ
file_16 =
    68 ∷ 0 ∷ 0 ∷ 0 ∷ 5 ∷ 0 ∷ 0 ∷ 0 ∷ 1 ∷ 0 ∷ 0 ∷ 0 ∷ 0 ∷ 0 ∷ 0 ∷ 0 ∷ 0 ∷ 0 ∷ 0 ∷ 0 ∷ 0 ∷ 0 ∷ 0 ∷ 0 ∷
    1 ∷ 0 ∷ 0 ∷ 0 ∷ 13 ∷ 0 ∷ 0 ∷ 0 ∷ 0 ∷ 0 ∷ 0 ∷ 0 ∷ 0 ∷ 0 ∷ 0 ∷ 0 ∷ 0 ∷ 0 ∷ 0 ∷ 0 ∷ 0 ∷ 0 ∷ 0 ∷ 0 ∷
    1 ∷ 46 ∷ 3 ∷ 19 ∷ 0 ∷ 0 ∷ 2 ∷ 36 ∷ 3 ∷ 19 ∷ 0 ∷ 0 ∷ 0 ∷ 1 ∷ 30 ∷ 0 ∷ 0 ∷ 0 ∷ 2 ∷ 42 ∷ 0 ∷ 0 ∷ 0 ∷ 0 ∷
    []

unfoldable pub file_17 : List ℕ
file_17 =
    67 ∷ 0 ∷ 0 ∷ 0 ∷ 5 ∷ 0 ∷ 0 ∷ 0 ∷ 1 ∷ 0 ∷ 0 ∷ 0 ∷ 1 ∷ 0 ∷ 0 ∷ 0 ∷ 0 ∷ 0 ∷ 0 ∷ 0 ∷ 0 ∷ 0 ∷ 0 ∷ 0 ∷
    1 ∷ 0 ∷ 0 ∷ 0 ∷ 11 ∷ 0 ∷ 0 ∷ 0 ∷ 0 ∷ 0 ∷ 0 ∷ 0 ∷ 0 ∷ 0 ∷ 0 ∷ 0 ∷ 0 ∷ 0 ∷ 0 ∷ 0 ∷ 0 ∷ 0 ∷ 0 ∷ 0 ∷
    0 ∷ 0 ∷ 0 ∷ 0 ∷ 1 ∷ 19 ∷ 1 ∷ 11 ∷ 2 ∷ 11 ∷ 3 ∷ 19 ∷ 0 ∷ 0 ∷ 0 ∷ 1 ∷ 9 ∷ 0 ∷ 30 ∷ 0 ∷ 0 ∷ 0 ∷ 0 ∷
    []

unfoldable pub file_18 : List ℕ
file_18 =
    57 ∷ 0 ∷ 0 ∷ 0 ∷ 5 ∷ 0 ∷ 0 ∷ 0 ∷ 1 ∷ 0 ∷ 0 ∷ 0 ∷ 0 ∷ 0 ∷ 0 ∷ 0 ∷ 0 ∷ 0 ∷ 0 ∷ 0 ∷ 0 ∷ 0 ∷ 0 ∷ 0 ∷
    1 ∷ 0 ∷ 0 ∷ 0 ∷ 7 ∷ 0 ∷ 0 ∷ 0 ∷ 0 ∷ 0 ∷ 0 ∷ 0 ∷ 0 ∷ 0 ∷ 0 ∷ 0 ∷ 0 ∷ 0 ∷ 0 ∷ 0 ∷ 0 ∷ 0 ∷ 0 ∷ 0 ∷
    1 ∷ 46 ∷ 3 ∷ 19 ∷ 0 ∷ 0 ∷ 0 ∷ 1 ∷ 30 ∷ 0 ∷ 0 ∷ 0 ∷ 0 ∷
    []

unfoldable pub file_19 : List ℕ
file_19 =
    255 ∷ 255 ∷ 255 ∷ 255 ∷ 72 ∷ 0 ∷ 0 ∷ 0 ∷ 0 ∷ 0 ∷ 0 ∷ 0 ∷ 5 ∷ 0 ∷ 0 ∷ 0 ∷ 1 ∷ 0 ∷ 0 ∷ 0 ∷ 0 ∷ 0 ∷ 0 ∷ 0 ∷
    0 ∷ 0 ∷ 0 ∷ 0 ∷ 0 ∷ 0 ∷ 0 ∷ 0 ∷ 1 ∷ 0 ∷ 0 ∷ 0 ∷ 9 ∷ 0 ∷ 0 ∷ 0 ∷ 0 ∷ 0 ∷ 0 ∷ 0 ∷ 0 ∷ 0 ∷ 0 ∷ 0 ∷
    0 ∷ 0 ∷ 0 ∷ 0 ∷ 0 ∷ 0 ∷ 0 ∷ 0 ∷ 0 ∷ 0 ∷ 0 ∷ 0 ∷ 0 ∷ 0 ∷ 0 ∷ 0 ∷ 0 ∷ 0 ∷ 0 ∷ 0 ∷ 1 ∷ 46 ∷ 1 ∷ 15 ∷
    3 ∷ 19 ∷ 0 ∷ 0 ∷ 0 ∷ 1 ∷ 0 ∷ 30 ∷ 0 ∷ 0 ∷ 0 ∷ 0 ∷
    []

unfoldable pub file_20 : List ℕ
file_20 =
    60 ∷ 0 ∷ 0 ∷ 0 ∷ 5 ∷ 0 ∷ 0 ∷ 0 ∷ 1 ∷ 0 ∷ 0 ∷ 0 ∷ 0 ∷ 0 ∷ 0 ∷ 0 ∷ 0 ∷ 0 ∷ 0 ∷ 0 ∷ 0 ∷ 0 ∷ 0 ∷ 0 ∷
    1 ∷ 0 ∷ 0 ∷ 0 ∷ 9 ∷ 0 ∷ 0 ∷ 0 ∷ 0 ∷ 0 ∷ 0 ∷ 0 ∷ 0 ∷ 0 ∷ 0 ∷ 0 ∷ 0 ∷ 0 ∷ 0 ∷ 0 ∷ 0 ∷ 0 ∷ 0 ∷ 0 ∷
    1 ∷ 46 ∷ 1 ∷ 15 ∷ 3 ∷ 19 ∷ 0 ∷ 0 ∷ 0 ∷ 1 ∷ 0 ∷ 30 ∷ 0 ∷ 0 ∷ 0 ∷ 0 ∷
    []

-- what each row says
abbrev pub NameLookUps : Type 0
NameLookUps = record {
  look_names_base_0 : NamesPrint file_0 file_1 0 (codes "name main") 0 (codes "found 1\ncompile 0 1e 2e main\n");
  look_names_entry_group_without_entries : NamesPrint file_2 file_1 0 (codes "name main") 0 (codes "found 0\n");
  look_names_first_of_two_equal_attributes : NamesPrint file_3 file_1 0 (codes "name main") 0 (codes "found 1\ncompile 0 1e 2e main\n");
  look_names_first_of_two_equal_codes : NamesPrint file_4 file_1 0 (codes "name main") 0 (codes "found 1\ncompile 0 1e 2e main\n");
  look_names_foreign_type_unit : NamesPrint file_5 file_1 0 (codes "name main") 0 (codes "found 1\nforeign 0 1e 13 main\n");
  look_names_local_type_unit : NamesPrint file_6 file_1 0 (codes "name main") 0 (codes "found 1\ntype 0 1e 13 main\n");
  look_names_name : NamesPrint file_0 file_1 0 (codes "name main") 0 (codes "found 1\ncompile 0 1e 2e main\n");
  look_names_name_with_a_byte_from_80_on_has_any_hash : NamesPrint file_7 file_8 0 (110 ∷ 97 ∷ 109 ∷ 101 ∷ 32 ∷ 195 ∷ 169 ∷ 120 ∷ []) 0 (102 ∷ 111 ∷ 117 ∷ 110 ∷ 100 ∷ 32 ∷ 49 ∷ 10 ∷ 99 ∷ 111 ∷ 109 ∷ 112 ∷ 105 ∷ 108 ∷ 101 ∷ 32 ∷ 48 ∷ 32 ∷ 49 ∷ 101 ∷ 32 ∷ 50 ∷ 101 ∷ 32 ∷ 195 ∷ 169 ∷ 120 ∷ 10 ∷ []);
  look_names_offset_in_a_flag : NamesPrint file_9 file_1 0 (codes "name main") 0 (codes "found 1\ncompile 0 1e 2e main\n");
  look_names_offset_in_sdata : NamesPrint file_10 file_1 0 (codes "name main") 0 (codes "found 1\ncompile 0 1e 2e main\n");
  look_names_other_name : NamesPrint file_0 file_1 0 (codes "name Main") 0 (codes "found 0\n");
  look_names_over_nothing : NamesPrint file_11 file_12 0 (codes "name main") 0 (codes "found 0\n");
  look_names_padding_isnt_looked_at : NamesPrint file_13 file_1 0 (codes "name main") 0 (codes "found 1\ncompile 0 1e 2e main\n");
  look_names_parent_and_hash_are_skipped : NamesPrint file_14 file_1 0 (codes "name main") 0 (codes "found 1\ncompile 0 1e 2e main\n");
  look_names_string_from_the_base_on : NamesPrint file_15 file_1 100 (codes "name main") 0 (codes "found 1\ncompile 0 1e 2e main\n");
  look_names_two_entries_of_one_name : NamesPrint file_16 file_1 0 (codes "name main") 0 (codes "found 2\ncompile 0 1e 2e main\ncompile 0 2a 24 main\n");
  look_names_type_unit_counts_before_compile_unit : NamesPrint file_17 file_1 0 (codes "name main") 0 (codes "found 1\ntype 0 1e 13 main\n");
  look_names_unit_of_one_unit : NamesPrint file_18 file_1 0 (codes "name main") 0 (codes "found 1\ncompile 0 1e 2e main\n");
  look_names_wide_format : NamesPrint file_19 file_1 0 (codes "name main") 0 (codes "found 1\ncompile 0 1e 2e main\n");
  look_names_without_hashes : NamesPrint file_20 file_1 0 (codes "name main") 0 (codes "found 1\ncompile 0 1e 2e main\n");
}
