-- The bytes of names by their classes.
use Rattle.std.specs.Prelude.{ℕ, Bool, ◌||◌, ◌&&◌, ◌==◌, nat_le, not, List, length, position, unwrap_or}

abbrev pub is_between : ℕ → ℕ → ℕ → Bool
is_between low high b = nat_le low b && nat_le b high

-- white space ([lex.token]): a blank, a tab, the end of a line
abbrev pub is_blank : ℕ → Bool
is_blank b = b == 32 || b == 9 || b == 10

abbrev pub is_no_blank : ℕ → Bool
is_no_blank b = not (is_blank b)

abbrev pub is_digit : ℕ → Bool
is_digit b = is_between 48 57 b

-- what identifiers begin with ([lex.name]): a letter, `_`, `$` and each byte of a letter beyond ASCII
abbrev pub is_letter : ℕ → Bool
is_letter b = is_between 65 90 b || is_between 97 122 b || b == 95 || b == 36 || nat_le 128 b

-- what they go on with
abbrev pub is_word_byte : ℕ → Bool
is_word_byte b = is_letter b || is_digit b

abbrev pub ends_word : ℕ → Bool
ends_word b = not (is_word_byte b)

-- what literals go on with ([lex.icon], [lex.fcon]): digits, and the letters of a prefix, of hexadecimal digits and of a suffix
abbrev pub is_literal_byte : ℕ → Bool
is_literal_byte b = is_between 65 90 b || is_between 97 122 b || is_digit b

abbrev pub ends_literal : ℕ → Bool
ends_literal b = not (is_literal_byte b)

-- exponent-part ([lex.fcon]): `e` and a sign
abbrev pub is_exponent_byte : ℕ → Bool
is_exponent_byte b = b == 101 || b == 69

abbrev pub is_sign_byte : ℕ → Bool
is_sign_byte b = b == 43 || b == 45

-- floating-point-suffix ([lex.fcon]): `f` or `l`, small or large
abbrev pub is_float_byte : ℕ → Bool
is_float_byte b = b == 102 || b == 70

-- integer-suffix ([lex.icon]): `l` and `u`, small or large
abbrev pub is_long_byte : ℕ → Bool
is_long_byte b = b == 108 || b == 76

abbrev pub is_unsigned_byte : ℕ → Bool
is_unsigned_byte b = b == 117 || b == 85

abbrev pub is_suffix_byte : ℕ → Bool
is_suffix_byte b = b == 108 || b == 76 || b == 117 || b == 85

-- how many bytes stand in front of the first that has a property
abbrev pub until : (ℕ → Bool) → List ℕ → ℕ
until has bytes = unwrap_or (position has bytes) (length bytes)
