-- Quoted names (this project's own rule): `\xHH` in place of each control byte and of the backslash.
use Rattle.std.specs.Prelude.{◌≡◌, ◌≢◌, ◌≤◌, ℕ, ◌+◌, ◌*◌, ◌-◌, ◌/◌, ◌%◌, Bool, false, not, ◌&&◌, nat_le, ◌==◌, if◌then◌else◌, List, [], ◌∷◌, flat_map}
use Rattle.std.specs.Fmt.{digit_glyph}
use Rattle.std.specs.List.{AllByRecursion}
use Rattle.name_quotes.specs.declared.quote.Spelling.{Spelling}
use Rattle.name_quotes.specs.declared.quote.Spelling.TheVariants.{Plain, Quoted}

-- a byte that stands for itself: no byte below 0x20, not 0x7F, and no backslash
abbrev pub is_shown : ℕ → Bool
is_shown b = nat_le 32 b && not (b == 127) && not (b == 92)

-- a backslash, an x and the two lower-case hexadecimal digits of a byte
abbrev pub escaped : ℕ → List ℕ
escaped b = 92 ∷ 120 ∷ digit_glyph false (b / 16) ∷ digit_glyph false (b % 16) ∷ []

-- what stands for a byte: itself, or that
abbrev pub quoted_byte : ℕ → List ℕ
quoted_byte b = if is_shown b then b ∷ [] else escaped b

-- a name with all of its bytes quoted
unfoldable pub quoted : List ℕ → List ℕ
quoted name = flat_map quoted_byte name

-- a name as it is written
abbrev pub spelled : Spelling → List ℕ → List ℕ
spelled Plain name = name
spelled Quoted name = quoted name

-- ---- laws

-- no control byte stands in a quoted name, so no newline does
abbrev pub QuotedNamesAreOneLine : Type 0
QuotedNamesAreOneLine = (name : List ℕ) → AllByRecursion (λ b. (32 ≤ b) × (b ≢ 127)) (quoted name)

-- how far a quoted name was read: at a byte, behind a backslash, behind its x, or behind the first digit
pub data Place : Type 0 where
  AtByte AtMark AtHigh : Place
  AtLow : ℕ → Place

-- the number of a lower-case hexadecimal digit
abbrev pub digit_value : ℕ → ℕ
digit_value d = if nat_le 97 d then d - 87 else d - 48

-- the bytes that what is left of a quoted name stands for
unfoldable pub read_from : Place → List ℕ → List ℕ
read_from place [] = []
read_from AtByte (b ∷ bs) = if b == 92 then read_from AtMark bs else b ∷ read_from AtByte bs
read_from AtMark (b ∷ bs) = read_from AtHigh bs
read_from AtHigh (b ∷ bs) = read_from (AtLow (digit_value b)) bs
read_from (AtLow high) (b ∷ bs) = (16 * high + digit_value b) ∷ read_from AtByte bs

-- a name can be read back from what stands for it
abbrev pub QuotedNamesReadBack : Type 0
QuotedNamesReadBack = (name : List ℕ) → read_from AtByte (quoted name) ≡ name
