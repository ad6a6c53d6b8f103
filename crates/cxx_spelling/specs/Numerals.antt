-- The numbers that integer literals stand for ([lex.icon]), as gdb 16 writes them: in decimal (parse_number of its cp-name-parser.y).
use Rattle.std.specs.Prelude.{ℕ, ◌+◌, ◌*◌, ◌^◌, not, ◌&&◌, ◌||◌, ◌==◌, nat_lt, if◌then◌else◌, List, [], ◌∷◌, ◌++◌, take, drop, slice_index, fold, codes, decimal, Option, Some, None, option_map}
use Rattle.std.specs.List.{list_all}
use Rattle.std.specs.Char.{digit_value}
use Rattle.cxx_spelling.specs.declared.numerals.Base.{Base}
use Rattle.cxx_spelling.specs.declared.numerals.Base.TheVariants as base
use Rattle.cxx_spelling.specs.Bytes.{is_digit, until, is_suffix_byte}

-- how many digits a base has
abbrev pub radix : Base → ℕ
radix base.Binary = 2
radix base.Octal = 8
radix base.Decimal = 10
radix base.Hexadecimal = 16

-- how many bytes tell it before the first digit; the zero of an octal literal is a digit
abbrev pub prefix_length : Base → ℕ
prefix_length base.Binary = 2
prefix_length base.Hexadecimal = 2
prefix_length _ = 0

-- the base of a literal by its first two bytes: `0b`, `0x`, or a zero before anything else; 0 stands behind the last byte
abbrev pub base_of : ℕ → ℕ → Base
base_of first second =
    if not (first == 48) || second == 0 then base.Decimal
    else if second == 120 || second == 88 then base.Hexadecimal
    else if second == 98 || second == 66 then base.Binary
    else base.Octal

-- the number that digits stand for, the highest first
abbrev pub value_of : ℕ → List ℕ → ℕ
value_of radix digits = fold (λ n b. n * radix + digit_value b) 0 digits

-- the same, where each is a digit of the base and the number fits in 64 bits
abbrev pub number_of : ℕ → List ℕ → Option ℕ
number_of radix digits =
    let value = value_of radix digits in
    if list_all (λ b. nat_lt (digit_value b) radix) digits && nat_lt value (2 ^ 64) then Some value else None

-- a literal without its sign
abbrev pub behind_sign : List ℕ → List ℕ
behind_sign [] = []
behind_sign (first ∷ behind) = if first == 45 then behind else first ∷ behind

abbrev pub sign_of : List ℕ → List ℕ
sign_of text = if slice_index text 0 == 45 then codes "-" else codes ""

-- a literal without its suffix, in decimal: a decimal one stays, however many digits it has
abbrev pub in_decimal : Base → List ℕ → Option (List ℕ)
in_decimal base.Decimal text = if list_all is_digit (behind_sign text) then Some text else None
in_decimal base text = option_map (λ n. sign_of text ++ decimal n) (number_of (radix base) (drop (prefix_length base) (behind_sign text)))

-- the same of a literal with a suffix, which is made of `u` and `l` alone
abbrev pub decimal_digits : List ℕ → Option (List ℕ)
decimal_digits text =
    let digits = take (until is_suffix_byte text) text in
    let suffix = drop (until is_suffix_byte text) text in
    let unsigned = behind_sign digits in
    if list_all is_suffix_byte suffix then in_decimal (base_of (slice_index unsigned 0) (slice_index unsigned 1)) digits else None
