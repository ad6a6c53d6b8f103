-- What the address area has of one piece.
use Rattle.std.specs.Prelude.{ℕ, ◌++◌, List, slice_index}
use Rattle.index_model.specs.declared.range.UnitRange.{UnitRange}
use Rattle.index_model.specs.Layout.{u32_bytes, u64_bytes}

-- a piece where the units have these numbers
abbrev pub piece_bytes : List ℕ → UnitRange → List ℕ
piece_bytes numbers p = u64_bytes p.range.low ++ u64_bytes p.range.end ++ u32_bytes (slice_index numbers p.unit)
