-- What the compiler puts at the end of a name: numbers, and the marks of what isn't protected and of the bodies of tasks (gdb/ada-lang.c, ada_decode,
-- ada_remove_trailing_digits, ada_remove_po_subprogram_suffix).
use Rattle.std.specs.Prelude.{ℕ, zero, suc, ◌+◌, ◌-◌, Bool, not, ◌&&◌, ◌||◌, nat_lt, nat_le, ◌==◌, if◌then◌else◌, List, [], ◌∷◌, length, take, codes, slice_index, Option, Some, None, option_map}
use Rattle.ada_spelling.specs.Bytes.{is_digit, is_line, is_lower_or_digit, last_byte, begins_with, has_end, shortened_by, without_end, before_digits}

-- the number of bytes of what leads to digits: `.`, `$`, `___` or `__`; 0 where it is none of them
abbrev pub lead_length : List ℕ → ℕ
lead_length stem =
    if has_end (codes ".") stem || has_end (codes "$") stem then 1 else
    if has_end (codes "___") stem then 3 else
    if has_end (codes "__") stem then 2 else 0

-- without digits at the end and what leads to them
unfoldable pub without_digits : List ℕ → List ℕ
without_digits name =
    let stem = before_digits name in
    if nat_lt (length stem) (length name) && nat_lt 0 (lead_length stem) then shortened_by (lead_length stem) stem else name

-- without the N that marks what isn't protected
abbrev pub without_mark : List ℕ → List ℕ
without_mark name = if has_end (codes "N") name && is_lower_or_digit (last_byte (shortened_by 1 name)) then shortened_by 1 name else name

-- the place of a text in the bytes that stand from a place on
unfoldable pub place_from : List ℕ → ℕ → List ℕ → Option ℕ
place_from text at [] = None
place_from text at (b ∷ bs) =
    let later = place_from text (at + 1) bs in
    if begins_with text (b ∷ bs) then Some at else later

-- the place of a text
abbrev pub place_of : List ℕ → List ℕ → Option ℕ
place_of text name = place_from text 0 name

-- Of what stands behind the first `___`, if something does: `X` begins what is dropped with it, and by anything else the name is refused.
abbrev pub cut_at : List ℕ → Option ℕ → Option (List ℕ)
cut_at name (Some k) =
    if nat_le (length name) (k + 3) then Some name else
    if slice_index name (k + 3) == 88 then Some (take k name) else None
cut_at name None = Some name

-- without the marks of the bodies of tasks
abbrev pub without_bodies : List ℕ → List ℕ
without_bodies name = without_end (codes "B") (without_end (codes "TB") (without_end (codes "TKB") name))

-- whether a digit stands at a place, or a single line behind a digit
abbrev pub is_of_numbers : List ℕ → ℕ → Bool
is_of_numbers name k = is_digit (slice_index name k) || (is_line (slice_index name k) && nat_lt 0 k && is_digit (slice_index name (k - 1)))

-- how many of the first n bytes stand before the numbers at the end of these
unfoldable pub numbers_start : List ℕ → ℕ → ℕ
numbers_start name zero = 0
numbers_start name (suc n) =
    let before = numbers_start name n in
    if is_of_numbers name n then before else suc n

-- what stands before the numbers at the end
abbrev pub before_numbers : List ℕ → List ℕ
before_numbers name = take (numbers_start name (length name)) name

-- without numbers at the end that `__` or `$` leads to
unfoldable pub without_numbers : List ℕ → List ℕ
without_numbers name =
    let left = before_numbers name in
    if not (is_digit (last_byte name)) then name else
    if has_end (codes "__") left && nat_lt 2 (length left) then shortened_by 2 left else
    if has_end (codes "$") left then shortened_by 1 left else name

-- without all these ends; none where the name is refused
unfoldable pub without_ends : List ℕ → Option (List ℕ)
without_ends name =
    let marked = without_mark (without_digits name) in
    option_map (λ cut. without_numbers (without_bodies cut)) (cut_at marked (place_of (codes "___") marked))
