-- Bytes that are laid out one after the other.
use Rattle.std.specs.Prelude.{ℕ, List, [], ◌∷◌, ◌++◌, length, take, drop, sum_by, slice_get, unwrap_or}
use Rattle.std.specs.List.{range_with_len}
use Rattle.byteorder.specs.Endian.{little_bytes, little_number}

-- the numbers below n, ascending
abbrev pub below : ℕ → List ℕ
below n = range_with_len 0 n

-- a number in 2 bytes, the lowest first
abbrev pub u16_bytes : ℕ → List ℕ
u16_bytes n = little_bytes 2 n

-- a number in 4 bytes, the lowest first
abbrev pub u32_bytes : ℕ → List ℕ
u32_bytes n = little_bytes 4 n

-- a number in 8 bytes, the lowest first
abbrev pub u64_bytes : ℕ → List ℕ
u64_bytes n = little_bytes 8 n

-- a text and the zero that ends it
abbrev pub ended : List ℕ → List ℕ
ended text = text ++ 0 ∷ []

-- where the item with this number begins, if items with these bytes stand one after the other
abbrev pub start_of : List (List ℕ) → ℕ → ℕ
start_of items k = sum_by length (take k items)

-- the number in the n bytes at a place, the lowest first
abbrev pub field : ℕ → ℕ → List ℕ → ℕ
field n at bytes = little_number n (drop at bytes)

-- the number at a place of a list
abbrev pub nth : List ℕ → ℕ → ℕ
nth xs k = unwrap_or (slice_get xs k) 0
