-- The codes of characters ([lex.ccon]), as gdb 16 writes them (cp_parse_escape of its cp-name-parser.y).
use Rattle.std.specs.Prelude.{ℕ, ◌-◌, not, ◌==◌, nat_lt, if◌then◌else◌, List, length, take, drop, slice_index, Option, Some, None}
use Rattle.cxx_spelling.specs.Numerals.{number_of}
use Rattle.cxx_spelling.specs.Tokens.{is_octal}

-- a simple-escape-sequence: the letters of control characters, `e` among them; any other byte stands for itself
abbrev pub escaped_code : ℕ → ℕ
escaped_code b =
    if b == 97 then 7
    else if b == 98 then 8
    else if b == 101 then 27
    else if b == 102 then 12
    else if b == 110 then 10
    else if b == 114 then 13
    else if b == 116 then 9
    else if b == 118 then 11
    else b

-- a code of ASCII. gdb writes the codes of other bytes as its host's `char` has them
abbrev pub ascii_code : ℕ → Option ℕ
ascii_code code = if nat_lt code 128 then Some code else None

-- the code of a character in its quotes
abbrev pub character_code : List ℕ → Option ℕ
character_code text =
    if not (slice_index text 1 == 92) then ascii_code (slice_index text 1)
    else if is_octal (slice_index text 2) then number_of 8 (take (length text - 3) (drop 2 text))
    else ascii_code (escaped_code (slice_index text 2))
