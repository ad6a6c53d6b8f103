-- What a read at a place of a file gives, where the file tells its place and its bytes.
use Rattle.std.specs.Prelude.{◌≡◌, ℕ, ◌<◌, List, take, Option, Some, IfSome}
use Rattle.std.specs.Io.KnownBytes.{Consumes, IsAtEnd}

-- The file was moved to the place, and gave the n bytes that it had there, which the buffer begins with: none only at its end, or where
-- there was no room.
abbrev pub ReadsFrom : {F : Type 0} → (F → Option ℕ) → (F → Option (List ℕ)) → F → F → ℕ → ℕ → ℕ → List ℕ → Type 0
ReadsFrom {F} position remaining old new at n room into =
    (sought : F) × IfSome (position old) (λ _. position sought ≡ Some at) × Consumes (remaining sought) (remaining new) (take n into)
    × (n ≡ 0 → 0 < room → IsAtEnd (remaining new))

-- a file that is left so was read from the place
abbrev pub WasReadFrom : {F : Type 0} → (F → Option ℕ) → (F → Option (List ℕ)) → F → ℕ → ℕ → ℕ → List ℕ → Type 0
WasReadFrom {F} position remaining new at n room into = (old : F) × ReadsFrom position remaining old new at n room into
