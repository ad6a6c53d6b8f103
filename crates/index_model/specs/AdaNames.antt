-- Decoded names of Ada: the coding that GNAT gives to library-level and nested names (this project's own rule).
use Rattle.std.specs.Prelude.{ℕ, ◌-◌, Bool, false, not, ◌&&◌, ◌||◌, nat_lt, nat_le, nat_eq, ◌==◌, if◌then◌else◌, List, [], ◌∷◌, length, take, drop, codes}
use Rattle.std.specs.List.{list_all, ends_with, onto_first, join_by, suffix_len}
use Rattle.index_model.specs.Sections.{begins_with}

-- a to z
abbrev pub is_letter : ℕ → Bool
is_letter b = nat_le 97 b && nat_le b 122

-- 0 to 9
abbrev pub is_digit : ℕ → Bool
is_digit b = nat_le 48 b && nat_le b 57

-- the low line
abbrev pub is_line : ℕ → Bool
is_line b = b == 95

-- a leading `_ada_` is dropped
abbrev pub without_prefix : List ℕ → List ℕ
without_prefix name = if begins_with (codes "_ada_") name then drop 5 name else name

-- what stands before the digits at the end
abbrev pub before_digits : List ℕ → List ℕ
before_digits name = take (length name - suffix_len is_digit name) name

-- a final `__` and one or more digits are dropped, if something stands before
unfoldable pub without_number : List ℕ → List ℕ
without_number name =
    let stem = before_digits name in
    if nat_lt (length stem) (length name) && ends_with nat_eq stem (codes "__") && nat_lt 2 (length stem) then take (length stem - 2) stem else name

-- the pieces between the `__`, which are taken from the left and don't overlap
unfoldable pub pieces : List ℕ → List (List ℕ)
pieces [] = [] ∷ []
pieces (a ∷ []) = (a ∷ []) ∷ []
pieces (a ∷ b ∷ bs) =
    let cut = [] ∷ pieces bs in
    let kept = onto_first a (pieces (b ∷ bs)) in
    if is_line a && is_line b then cut else kept

-- the first byte is a letter
abbrev pub begins_with_letter : List ℕ → Bool
begins_with_letter [] = false
begins_with_letter (b ∷ bs) = is_letter b

-- a piece begins with a letter and doesn't end with `_`
abbrev pub is_good_piece : List ℕ → Bool
is_good_piece piece = begins_with_letter piece && not (ends_with nat_eq piece (codes "_"))

-- a to z, 0 to 9 or `_`
abbrev pub is_good_byte : ℕ → Bool
is_good_byte b = is_letter b || is_digit b || is_line b

-- what is left of a name: without `_ada_` in front and without a number at the end
abbrev pub shortened : List ℕ → List ℕ
shortened name = without_number (without_prefix name)

-- whether the name is decoded; otherwise it stays as it was
unfoldable pub is_coded : List ℕ → Bool
is_coded name = list_all is_good_byte (shortened name) && list_all is_good_piece (pieces (shortened name))

-- the decoded name: the pieces joined by points, where the name is coded; else the name as it stood
unfoldable pub decoded : List ℕ → List ℕ
decoded name = if is_coded name then join_by (λ piece. piece) (codes ".") (pieces (shortened name)) else name

-- the last of the pieces
abbrev pub last_of : List (List ℕ) → List ℕ
last_of [] = []
last_of (piece ∷ []) = piece
last_of (piece ∷ next ∷ others) = last_of (next ∷ others)

-- the simple part of the decoded name: its last piece, or the name as it stood
unfoldable pub decoded_simple : List ℕ → List ℕ
decoded_simple name = if is_coded name then last_of (pieces (shortened name)) else name
