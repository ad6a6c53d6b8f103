-- A table of numbers.
use Rattle.std.specs.Prelude.{ℕ, ◌*◌, ◌/◌, ◌==◌, Bool, if◌then◌else◌, List, length, map}
use Rattle.index_model.specs.Layout.{below, field}
use Rattle.index_model.specs.NameTables.{Table}
use Rattle.index_model.specs.Strings.{offset_size}
use Rattle.debugnames_read.specs.declared.numbers.Numbers.{Numbers}

-- how many numbers stand in the bytes
abbrev pub number_count : Bool → List ℕ → ℕ
number_count wide bytes = length bytes / offset_size wide

-- the number with this index among those of so many bytes each
abbrev pub number_at : ℕ → List ℕ → ℕ → ℕ
number_at size bytes k = field size (size * k) bytes

-- the table
abbrev pub table_seen : Numbers → Table
table_seen n = record { at = n.at; numbers = map (number_at (offset_size n.wide) n.bytes.now) (below (number_count n.wide n.bytes.now)) }

-- how many hashes there are with so many buckets and names
abbrev pub hash_count : ℕ → ℕ → ℕ
hash_count buckets names = if buckets == 0 then 0 else names
