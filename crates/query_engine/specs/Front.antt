-- The first bytes of a text as a number.
use Rattle.std.specs.Prelude.{◌≡◌, ℕ, zero, suc, ◌+◌, ◌*◌, ◌^◌, ◌<◌, List, [], ◌∷◌, slice_index}

-- the first n bytes, the first the highest; 0 stands where there are none
unfoldable pub front : ℕ → List ℕ → ℕ
front zero xs = 0
front (suc n) [] = 0
front (suc n) (x ∷ xs) = x * 256 ^ n + front n xs

-- the number is the front of these bytes
pub record IsFrontOf (number : ℕ) (bytes : List ℕ) : Type 0 where
  pub is : number ≡ front 8 bytes
  pub small : (k : ℕ) → slice_index bytes k < 256
