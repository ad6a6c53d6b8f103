-- The tokens of a name ([lex.token]), as gdb tells them apart.
use Rattle.std.specs.Prelude.{ℕ, ◌+◌, ◌-◌, min, Bool, not, ◌&&◌, ◌||◌, ◌==◌, nat_eq, if◌then◌else◌, List, [], ◌∷◌, length, take, drop, slice_index, codes}
use Rattle.std.specs.List.{list_any, starts_with}
use Rattle.cxx_spelling.specs.declared.kind.Kind.{Kind}
use Rattle.cxx_spelling.specs.declared.kind.Kind.TheVariants as token
use Rattle.cxx_spelling.specs.Bytes.{until, is_digit, is_letter, is_between, is_no_blank, ends_word, ends_literal, is_exponent_byte, is_sign_byte, is_float_byte, is_long_byte}
use Rattle.cxx_spelling.specs.Keywords.{keyword}

-- a token, and what stands behind it
pub record Lexeme : Type 0 where
  pub kind : Kind
  pub text : List ℕ
  pub rest : List ℕ

-- ---- signs ([lex.operators])

-- a sign of one byte, in sight of the next byte: `<<`, `<=`, `>>`, `>=` and `*=` are taken by no rule
abbrev pub sign : ℕ → ℕ → Kind
sign first second =
    if first == 44 then token.Comma
    else if first == 41 then token.CloseParenthesis
    else if first == 91 then token.OpenBracket
    else if first == 93 then token.CloseBracket
    else if first == 60 && not (second == 60) && not (second == 61) then token.Less
    else if first == 62 && not (second == 62) && not (second == 61) then token.Greater
    else if first == 42 && not (second == 61) then token.Star
    else token.Other

-- `::`
abbrev pub colon : ℕ → Kind × ℕ
colon second = if second == 58 then (token.Scope, 2) else (token.Other, 1)

-- `&&`, `&` and `&=`
abbrev pub ampersand : ℕ → Kind × ℕ
ampersand second = if second == 38 then (token.RvalueReference, 2) else if second == 61 then (token.Other, 2) else (token.Reference, 1)

-- `...`
abbrev pub point : ℕ → ℕ → Kind × ℕ
point second third = if second == 46 && third == 46 then (token.Ellipsis, 3) else (token.Other, 1)

-- a namespace without a name is one token; else `(`
abbrev pub parenthesis : List ℕ → Kind × ℕ
parenthesis bytes = if starts_with nat_eq bytes (codes "(anonymous namespace)") then (token.Name, 21) else (token.OpenParenthesis, 1)

abbrev pub punctuation : List ℕ → Kind × ℕ
punctuation bytes =
    let first = slice_index bytes 0 in
    let second = slice_index bytes 1 in
    if first == 40 then parenthesis bytes
    else if first == 58 then colon second
    else if first == 38 then ampersand second
    else if first == 46 then point second (slice_index bytes 2)
    else (sign first second, 1)

-- ---- literals

-- a hexadecimal literal, in which `e` is a digit
abbrev pub is_hexadecimal : List ℕ → Bool
is_hexadecimal text = slice_index text 0 == 48 && (slice_index text 1 == 120 || slice_index text 1 == 88)

abbrev pub has_exponent : List ℕ → Bool
has_exponent text = not (is_hexadecimal text) && (list_any (λ b. nat_eq b 101) text || list_any (λ b. nat_eq b 69) text)

abbrev pub last_byte : List ℕ → ℕ
last_byte text = slice_index text (length text - 1)

-- how many bytes behind a text belong to it as a point and digits
abbrev pub fraction : List ℕ → List ℕ → ℕ
fraction text [] = 0
fraction text (first ∷ behind) = if first == 46 && not (has_exponent text) then until ends_literal behind + 1 else 0

-- how many bytes behind a text that ends with `e` belong to it as a sign and digits
abbrev pub exponent : List ℕ → List ℕ → ℕ
exponent text [] = 0
exponent text (first ∷ behind) =
    if is_sign_byte first && has_exponent text && is_exponent_byte (last_byte text) then until ends_literal behind + 1 else 0

-- a floating-point literal ([lex.fcon]) has a point or an exponent, and ends with a digit, a point or a suffix; else it is an integer literal ([lex.icon])
abbrev pub number_kind : List ℕ → Kind
number_kind text =
    let last = last_byte text in
    if not (list_any (λ b. nat_eq b 46) text || has_exponent text) then token.Number
    else if is_digit last || last == 46 || is_float_byte last || is_long_byte last then token.Floating
    else token.Other

-- where a literal ends that begins with so many bytes
abbrev pub literal_end : ℕ → List ℕ → ℕ
literal_end n bytes =
    let m = n + fraction (take n bytes) (drop n bytes) in
    m + exponent (take m bytes) (drop m bytes)

-- it begins with a digit, or with `-` before one
abbrev pub number : List ℕ → Kind × ℕ
number [] = (token.End, 0)
number (first ∷ behind) =
    let n = literal_end (until ends_literal behind + 1) (first ∷ behind) in
    (number_kind (take n (first ∷ behind)), n)

abbrev pub is_octal : ℕ → Bool
is_octal b = is_between 48 55 b

-- octal-escape-sequence ([lex.ccon]): one, two or three octal digits
abbrev pub octal : List ℕ → Kind × ℕ
octal bytes =
    let second = slice_index bytes 3 in
    let third = slice_index bytes 4 in
    if second == 39 then (token.Character, 4)
    else if is_octal second && third == 39 then (token.Character, 5)
    else if is_octal second && is_octal third && slice_index bytes 5 == 39 then (token.Character, 6)
    else (token.Other, 1)

-- simple-escape-sequence: any other byte, but that gdb takes `^` for a control character
abbrev pub escape : List ℕ → Kind × ℕ
escape bytes =
    let escaped = slice_index bytes 2 in
    if is_octal escaped then octal bytes
    else if not (escaped == 94) && not (escaped == 10) && slice_index bytes 3 == 39 then (token.Character, 4)
    else (token.Other, 1)

-- character-literal ([lex.ccon])
abbrev pub character : List ℕ → Kind × ℕ
character bytes =
    let first = slice_index bytes 1 in
    if first == 92 then escape bytes
    else if not (first == 39) && slice_index bytes 2 == 39 then (token.Character, 3)
    else (token.Other, 1)

abbrev pub literal_or_sign : List ℕ → Kind × ℕ
literal_or_sign bytes =
    let first = slice_index bytes 0 in
    if is_digit first || (first == 45 && is_digit (slice_index bytes 1)) then number bytes
    else if first == 39 then character bytes
    else punctuation bytes

-- ---- tokens

-- what stands in front, and how many bytes it has
abbrev pub shape : List ℕ → Kind × ℕ
shape bytes =
    if length bytes == 0 then (token.End, 0)
    else if is_letter (slice_index bytes 0) then (keyword (take (until ends_word bytes) bytes), until ends_word bytes)
    else literal_or_sign bytes

-- the token behind any white space
abbrev pub first_token : List ℕ → Lexeme
first_token bytes =
    let front = drop (until is_no_blank bytes) bytes in
    let found = shape front in
    let n = min found.1 (length front) in
    record { kind = found.0; text = take n front; rest = drop n front }
