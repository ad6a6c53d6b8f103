-- The places of the pool that were checked.
use Rattle.std.specs.Prelude.{ℕ, Bool, false, slice_index_or}
use Rattle.debugnames_read.specs.declared.checked.Checked.{Checked}

-- whether a place is among them
abbrev pub is_checked : Checked → ℕ → Bool
is_checked c k = slice_index_or c.places.items k false
