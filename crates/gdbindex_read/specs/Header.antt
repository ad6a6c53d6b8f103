-- The header of an index: its version and its offsets.
use Rattle.std.specs.Prelude.{◌≤◌, ℕ, ◌+◌, ◌*◌, nat_le, List, length, map, Result}
use Rattle.ix_base.specs.declared.fault.Fault.{Fault}
use Rattle.index_model.specs.declared.index_code.TheConstants.{GDB_OFFSETS}
use Rattle.index_model.specs.Meaning.{◌>>◌, fault, holds_or}
use Rattle.index_model.specs.Layout.{below, field}
use Rattle.index_model.specs.GdbAreas.{offsets_from}
use Rattle.gdbindex_read.specs.declared.header.Version.{Version}
use Rattle.gdbindex_read.specs.declared.header.Version.TheVariants.{Eight, Nine}

-- the number of the version
abbrev pub version_number : Version → ℕ
version_number Eight = 8
version_number Nine = 9

-- how many bytes the header has
abbrev pub header_length : Version → ℕ
header_length Eight = 24
header_length Nine = 28

-- how many offsets it has
abbrev pub offset_count : Version → ℕ
offset_count Eight = 5
offset_count Nine = 6

-- which of them is that of the constant pool
abbrev pub pool_field : Version → ℕ
pool_field Eight = 4
pool_field Nine = 5

-- the offset with this number
abbrev pub offset_at : List ℕ → ℕ → ℕ
offset_at bytes k = field 4 (4 * k + 4) bytes

-- all offsets
abbrev pub offsets : List ℕ → Version → List ℕ
offsets bytes v = map (offset_at bytes) (below (offset_count v))

-- the offsets, or the first that is wrong
abbrev pub checked_offsets : List ℕ → Version → Result (List ℕ) Fault
checked_offsets bytes v = holds_or (nat_le (header_length v) (length bytes)) (fault GDB_OFFSETS 4) >> offsets_from bytes 4 (header_length v) (offsets bytes v)

-- the header is whole, and the areas are in their order
pub record AreInOrder (bytes : List ℕ) (v : Version) : Type 0 where
  pub whole : header_length v ≤ length bytes
  pub types : offset_at bytes 0 ≤ offset_at bytes 1
  pub addresses : offset_at bytes 1 ≤ offset_at bytes 2
  pub table : offset_at bytes 2 ≤ offset_at bytes 3
  pub shortcut : offset_at bytes 3 ≤ offset_at bytes 4
  pub pool : offset_at bytes 4 ≤ offset_at bytes (pool_field v)
  pub end : offset_at bytes (pool_field v) ≤ length bytes
