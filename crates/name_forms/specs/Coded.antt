-- Whether a name is coded, byte by byte.
use Rattle.std.specs.Prelude.{ℕ, Bool, ◌&&◌, ◌||◌, if◌then◌else◌, List, [], ◌∷◌, Option, Some, None}
use Rattle.std.specs.List.{list_all}
use Rattle.index_model.specs.AdaNames.{pieces, is_good_byte, is_good_piece, is_digit, is_letter, is_line}
use Rattle.name_forms.specs.declared.parts.Before.{Before}
use Rattle.name_forms.specs.declared.parts.Before.TheVariants as of

-- the bytes are good, and so are the pieces
abbrev pub is_good : List ℕ → Bool
is_good xs = list_all is_good_byte xs && list_all is_good_piece (pieces xs)

-- a shortest name that leads to a part
abbrev pub front : Before → List ℕ
front of.Begin = []
front of.Inside = 97 ∷ []
front of.Line = 97 ∷ 95 ∷ []

-- a piece goes on with letters and digits
abbrev pub further : ℕ → Option Before
further b = if is_letter b || is_digit b then Some of.Inside else None

-- it begins with a letter
abbrev pub first : ℕ → Option Before
first b = if is_letter b then Some of.Inside else None

-- the part behind one more byte, none where no coded name goes on so
abbrev pub part_after : Before → ℕ → Option Before
part_after of.Begin b = first b
part_after of.Inside b = if is_line b then Some of.Line else further b
part_after of.Line b = if is_line b then Some of.Begin else further b
