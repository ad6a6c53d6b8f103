-- The bytes of names by their classes, and texts at the two ends of a name.
use Rattle.std.specs.Prelude.{ℕ, ◌-◌, Bool, ◌&&◌, ◌||◌, ◌==◌, nat_lt, nat_le, nat_eq, if◌then◌else◌, List, length, take, drop, slice_index}
use Rattle.std.specs.List.{starts_with, ends_with, prefix_len, suffix_len}

-- ---- classes

-- 0 to 9
abbrev pub is_digit : ℕ → Bool
is_digit b = nat_le 48 b && nat_le b 57

-- the low line
abbrev pub is_line : ℕ → Bool
is_line b = b == 95

-- a to z
abbrev pub is_lower : ℕ → Bool
is_lower b = nat_le 97 b && nat_le b 122

-- A to Z or a to z
abbrev pub is_letter : ℕ → Bool
is_letter b = is_lower b || (nat_le 65 b && nat_le b 90)

-- a letter or a digit
abbrev pub is_alphanumeric : ℕ → Bool
is_alphanumeric b = is_letter b || is_digit b

-- a to z or a digit
abbrev pub is_lower_or_digit : ℕ → Bool
is_lower_or_digit b = is_lower b || is_digit b

-- ---- the two ends

-- the last byte, 0 where there is none
abbrev pub last_byte : List ℕ → ℕ
last_byte name = slice_index name (length name - 1)

-- whether it begins so
abbrev pub begins_with : List ℕ → List ℕ → Bool
begins_with front name = starts_with nat_eq name front

-- whether it ends so
abbrev pub has_end : List ℕ → List ℕ → Bool
has_end end name = ends_with nat_eq name end

-- without so many bytes at the end
abbrev pub shortened_by : ℕ → List ℕ → List ℕ
shortened_by n name = take (length name - n) name

-- without the text in front, if it stands there
abbrev pub without_front : List ℕ → List ℕ → List ℕ
without_front front name = if begins_with front name then drop (length front) name else name

-- without the text at the end, if it and something before it stand there
abbrev pub without_end : List ℕ → List ℕ → List ℕ
without_end end name = if has_end end name && nat_lt (length end) (length name) then shortened_by (length end) name else name

-- what stands before the letters at the end
abbrev pub before_letters : List ℕ → List ℕ
before_letters name = shortened_by (suffix_len is_letter name) name

-- what stands before the digits at the end
abbrev pub before_digits : List ℕ → List ℕ
before_digits name = shortened_by (suffix_len is_digit name) name

-- what stands before lower-case letters and digits at the end
abbrev pub before_part : List ℕ → List ℕ
before_part name = shortened_by (suffix_len is_lower_or_digit name) name

-- how many digits stand in front
abbrev pub digits_in_front : List ℕ → ℕ
digits_in_front bytes = prefix_len is_digit bytes
