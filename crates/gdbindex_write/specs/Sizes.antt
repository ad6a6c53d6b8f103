-- How many bytes the areas have (GDB manual, index section format).
use Rattle.std.specs.Prelude.{ℕ, ◌+◌, ◌*◌, not, ◌==◌, if◌then◌else◌, List, length, sum_by, count_by}
use Rattle.index_model.specs.declared.range.UnitRange.{UnitRange}
use Rattle.index_model.specs.declared.unit.Unit.{Unit as UnitHeader}
use Rattle.index_model.specs.GdbIndex.{Pool, is_type_unit}
use Rattle.index_model.specs.GdbSlots.{slot_count}
use Rattle.gdbindex_write.specs.declared.sizes.Sizes.{Sizes}

-- the bytes of vectors, each behind the number of its elements
abbrev pub vectors_size : List (List ℕ) → ℕ
vectors_size vectors = sum_by (λ v. 4 + 4 * length v) vectors

-- the bytes of names, each with a zero
abbrev pub names_size : List (List ℕ) → ℕ
names_size names = sum_by (λ n. length n + 1) names

-- the bytes of the areas of an index with this pool
abbrev pub sizes_of : List UnitHeader → List UnitRange → Pool → Sizes
sizes_of units pieces pool = record {
  units = 16 * count_by (λ u. not (is_type_unit u)) units;
  types = 24 * count_by is_type_unit units;
  addresses = 20 * length pieces;
  slots = 8 * slot_count (length pool.names);
  vectors = vectors_size pool.vectors;
  names = names_size pool.names;
}

-- the bytes of the index; version 9 has the shortcut, and its offset in the header
abbrev pub total : ℕ → Sizes → ℕ
total version s = (if version == 9 then 36 else 24) + s.units + s.types + s.addresses + s.slots + s.vectors + s.names
