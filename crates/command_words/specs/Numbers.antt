-- Decimal numbers in words.
use Rattle.std.specs.Prelude.{ℕ, ◌+◌, ◌*◌, ◌-◌, ◌^◌, Bool, false, not, ◌&&◌, nat_lt, nat_le, ◌==◌, if◌then◌else◌, List, [], ◌∷◌, length, fold, Option, Some, None, option_and_then}
use Rattle.std.specs.List.{list_all}
use Rattle.std.specs.Char.{is_ascii_digit}

-- the number that decimal digits stand for, the highest first
abbrev pub decimal_value : List ℕ → ℕ
decimal_value text = fold (λ n b. n * 10 + (b - 48)) 0 text

-- one digit or more, and nothing else
abbrev pub is_digits : List ℕ → Bool
is_digits text = nat_lt 0 (length text) && list_all is_ascii_digit text

-- the number that the digits stand for, if it fits in 32 bits
abbrev pub digits_value : List ℕ → Option ℕ
digits_value text = if is_digits text && nat_lt (decimal_value text) (2 ^ 32) then Some (decimal_value text) else None

-- a zero before other digits
abbrev pub has_leading_zero : List ℕ → Bool
has_leading_zero [] = false
has_leading_zero (b ∷ []) = false
has_leading_zero (b ∷ c ∷ bs) = b == 48

-- a number from low to high in decimal digits, without a sign or a leading zero
abbrev pub number_between : ℕ → ℕ → List ℕ → Option ℕ
number_between low high text = option_and_then (λ n. if not (has_leading_zero text) && nat_le low n && nat_le n high then Some n else None) (digits_value text)
