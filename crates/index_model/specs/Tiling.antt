-- Items that tile bytes: each begins where the one before it ends, and the last ends with the bytes.
use Rattle.std.specs.Prelude.{◌≡◌, ℕ, zero, suc, ◌+◌, ◌==◌, if◌then◌else◌, List, [], ◌∷◌, length, Result, Ok, Err}
use Rattle.ix_base.specs.declared.fault.Fault.{Fault}
use Rattle.ix_base.specs.Reading.{Input}
use Rattle.index_model.specs.Meaning.{◌>>=◌}

-- up to n items, the first of them with this number
unfoldable pub up_to : {A : Type 0} → ℕ → (ℕ → Input → Result (A × Input) Fault) → ℕ → Input → Result (List A) Fault
up_to zero read number i = Ok []
up_to (suc n) read number i = if length i.rest == 0 then Ok [] else do
  first ← read number i
  others ← up_to n read (number + 1) first.1
  Ok (first.0 ∷ others)

-- The items that tile the input, or the first fault. Each takes a byte, so there are no more of them than bytes.
abbrev pub tiles : {A : Type 0} → (ℕ → Input → Result (A × Input) Fault) → ℕ → Input → Result (List A) Fault
tiles read number i = up_to (length i.rest) read number i

-- ---- the same as relations

-- the items tile the input, the first of them with this number
abbrev pub Tiles : {A : Type 0} → (ℕ → Input → Result (A × Input) Fault) → ℕ → Input → List A → Type 0
Tiles read number i [] = i.rest ≡ []
Tiles read number i (x ∷ xs) = (length i.rest ≡ 0 → ⊥) × (next : Input) × (read number i ≡ Ok (x, next)) × Tiles read (number + 1) next xs

-- these items, and then the fault
abbrev pub TilesUpTo : {A : Type 0} → (ℕ → Input → Result (A × Input) Fault) → ℕ → Input → List A → Fault → Type 0
TilesUpTo read number i [] f = (length i.rest ≡ 0 → ⊥) × (read number i ≡ Err f)
TilesUpTo {A = A} read number i (x ∷ xs) f = (length i.rest ≡ 0 → ⊥) × (next : Input) × (read number i ≡ Ok (x, next)) × TilesUpTo read (number + 1) next xs f

-- what the tiling gives: its items, or the first fault behind some items
abbrev pub TilingGives : {A : Type 0} → (ℕ → Input → Result (A × Input) Fault) → ℕ → Input → Result (List A) Fault → Type 0
TilingGives read number i (Ok xs) = Tiles read number i xs
TilingGives {A = A} read number i (Err f) = (xs : List A) × TilesUpTo read number i xs f
