-- What the system's answer to a read or a write means: a count, or None where the call failed.
use Rattle.std.specs.Prelude.{ℕ, nat_le, ◌==◌, ◌&&◌, ◌||◌, not, Bool, Option, None, Some, if◌then◌else◌}

-- how many bytes a read gave that had so much room: those that the system counts, and never more than there is room for
abbrev pub given_of : Option ℕ → ℕ → Option ℕ
given_of None room = None
given_of (Some n) room = if nat_le n room then Some n else None

-- to take none of a piece that isn't empty is a failure, and so is a count beyond the piece
abbrev pub is_taken : ℕ → ℕ → Bool
is_taken n len = nat_le n len && (not (n == 0) || len == 0)

-- how many bytes a write took of a piece of so many: those that the system counts, and never the whole piece in their stead
abbrev pub taken_of : Option ℕ → ℕ → Option ℕ
taken_of None len = None
taken_of (Some n) len = if is_taken n len then Some n else None
