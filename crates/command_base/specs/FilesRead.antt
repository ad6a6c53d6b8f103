-- What was read of a file, where the shelf tells its files.
use Rattle.std.specs.Prelude.{◌≡◌, ℕ, ◌<◌, List, [], length, take, Option, Some, None}
use Rattle.outside.specs.Files.{Files}

-- the name holds these bytes
abbrev pub Holds : Option Files → List ℕ → List ℕ → Type 0
Holds None name bytes = Unit {0}
Holds (Some f) name bytes = f name ≡ Some bytes

-- the name holds more bytes than the limit
abbrev pub HoldsMore : Option Files → List ℕ → ℕ → Type 0
HoldsMore None name limit = Unit {0}
HoldsMore (Some f) name limit = (bytes : List ℕ) × (f name ≡ Some bytes) × (limit < length bytes)

-- the bytes are the first of what is held; of a name that isn't there nothing is read
abbrev pub IsFirstOf : Option (List ℕ) → List ℕ → Type 0
IsFirstOf None bytes = bytes ≡ []
IsFirstOf (Some held) bytes = bytes ≡ take (length bytes) held

-- the bytes are the first that the name holds
abbrev pub HoldsFirst : Option Files → List ℕ → List ℕ → Type 0
HoldsFirst None name bytes = Unit {0}
HoldsFirst (Some f) name bytes = IsFirstOf (f name) bytes
