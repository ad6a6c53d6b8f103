-- Reading from the front of bytes, the lowest byte of a number first (DWARF 5, sections 7.2.2, 7.4, 7.5.5 and 7.6).
-- A reader gives the value and what is left, or None where bytes are missing or a number is too large.
use Rattle.std.specs.Prelude.{ℕ, ◌+◌, ◌*◌, ◌-◌, ◌^◌, ℤ, pos, negsuc, ◌+ℤ◌, ◌-ℤ◌, ◌*ℤ◌, Bool, true, false, nat_lt, nat_le, ◌==◌, if◌then◌else◌, List, [], ◌∷◌, length, take, drop, position, Option, Some, None}
use Rattle.byteorder.specs.Endian.{little_number}

-- the bytes that are left, and the place of the first of them
pub record Input : Type 0 where
  pub at : ℕ
  pub rest : List ℕ

infixl 10 ◌>>=◌
-- where no byte is missing, f goes on with the value
abbrev pub ◌>>=◌ : {A B : Type 0} → Option A → (A → Option B) → Option B
None >>= f = None
(Some x) >>= f = f x

-- behind the next n bytes
abbrev pub past : ℕ → Input → Input
past n i = record { at = i.at + n; rest = drop n i.rest }

-- the next n bytes
abbrev pub bytes : ℕ → Input → Option (List ℕ × Input)
bytes n i = if nat_le n (length i.rest) then Some (take n i.rest, past n i) else None

-- the number in the next n bytes, the lowest first
abbrev pub number : ℕ → Input → Option (ℕ × Input)
number n i = if nat_le n (length i.rest) then Some (little_number n i.rest, past n i) else None

-- A byte below 128 is the last of a LEB number. One from 128 on has the low seven bits, and the bytes after it stand for the rest.
-- The number, and how many bytes it takes.
unfoldable pub unsigned_leb : List ℕ → Option (ℕ × ℕ)
unsigned_leb [] = None
unsigned_leb (b ∷ bs) =
    let longer = unsigned_leb bs >>= λ high. Some (b - 128 + 128 * high.0, high.1 + 1) in
    if nat_lt b 128 then Some (b, 1) else longer

-- the same, of at most 64 bits
abbrev pub leb64 : List ℕ → Option (ℕ × ℕ)
leb64 bs = unsigned_leb bs >>= λ n. if nat_lt n.0 (2 ^ 64) then Some n else None

-- a LEB number of at most 64 bits
abbrev pub uleb : Input → Option (ℕ × Input)
uleb i = leb64 i.rest >>= λ n. Some (n.0, past n.1 i)

-- the same, where a last byte from 64 on stands for itself less 128
unfoldable pub signed_leb : List ℕ → Option (ℤ × ℕ)
signed_leb [] = None
signed_leb (b ∷ bs) =
    let longer = signed_leb bs >>= λ high. Some (pos (b - 128) +ℤ (pos 128 *ℤ high.0), high.1 + 1) in
    let last = if nat_lt b 64 then pos b else (pos b -ℤ pos 128) in
    if nat_lt b 128 then Some (last, 1) else longer

-- the number fits in 64 bits with a sign
abbrev pub is_in_64 : ℤ → Bool
is_in_64 (pos n) = nat_lt n (2 ^ 63)
is_in_64 (negsuc n) = nat_lt n (2 ^ 63)

-- the same, of at most 64 bits
abbrev pub signed_leb64 : List ℕ → Option (ℤ × ℕ)
signed_leb64 bs = signed_leb bs >>= λ n. if is_in_64 n.0 then Some n else None

-- a signed LEB number of at most 64 bits
abbrev pub sleb : Input → Option (ℤ × Input)
sleb i = signed_leb64 i.rest >>= λ n. Some (n.0, past n.1 i)

-- the bytes before the first zero
abbrev pub before_zero : List ℕ → Option (List ℕ)
before_zero bs = position (λ b. b == 0) bs >>= λ k. Some (take k bs)

-- the same, and the zero is passed too
abbrev pub zstr : Input → Option (List ℕ × Input)
zstr i = before_zero i.rest >>= λ text. Some (text, past (length text + 1) i)

-- n bytes are passed
abbrev pub skip : ℕ → Input → Option (record {} × Input)
skip n i = if nat_le n (length i.rest) then Some (record {}, past n i) else None

-- how many bytes follow, and whether the format is the 64-bit one
pub record Length : Type 0 where
  pub length : ℕ
  pub wide : Bool

-- a length below FFFFFFF0, or FFFFFFFF and then a length of eight bytes
unfoldable pub initial_length : Input → Option (Length × Input)
initial_length i = do
  short ← number 4 i
  let narrow = Some (record { length = short.0; wide = false }, short.1)
  let wide = number 8 short.1 >>= λ long. Some (record { length = long.0; wide = true }, long.1)
  if nat_lt short.0 0xFFFFFFF0 then narrow else if short.0 == 0xFFFFFFFF then wide else None

-- an offset has four bytes, and eight in the wide format
abbrev pub offset : Bool → Input → Option (ℕ × Input)
offset wide i = number (if wide then 8 else 4) i

-- bytes from a place on
abbrev pub input : List ℕ → ℕ → Input
input bytes at = record { at = at; rest = drop at bytes }

-- the next n bytes alone
abbrev pub part : ℕ → Input → Option (Input × Input)
part n i = if nat_le n (length i.rest) then Some (record { at = i.at; rest = take n i.rest }, past n i) else None
