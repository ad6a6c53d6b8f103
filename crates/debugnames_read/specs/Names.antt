-- The names of an index, by their numbers.
use Rattle.std.specs.Prelude.{IsOk, ◌≡◌, ℕ, ◌-◌, ◌<◌, ◌≤◌, Bool, true, false, not, nat_le, ◌==◌, List, [], filter, flat_map, bytes_eq, Option, Some, None, unwrap_or, Result, Ok, Err, IfSome}
use Rattle.std.specs.List.{list_any, enumerate_from, range_with_len}
use Rattle.ix_base.specs.declared.fault.Fault.{Fault}
use Rattle.ix_base.specs.Reading.{Input, skip, ◌>>=◌ as ◌>>=?◌}
use Rattle.index_model.specs.Hashes.{name_hash}
use Rattle.index_model.specs.Layout.{below, nth}
use Rattle.index_model.specs.Meaning.{◌>>=◌, ◌>>◌, each, value_of}
use Rattle.index_model.specs.NameAbbreviations.{abbreviations}
use Rattle.index_model.specs.NameIndexRead.{NameHit, NameIndex, entries_of_name, is_bucket, name_at, string_of}
use Rattle.index_model.specs.NameTables.{Tables}
use Rattle.debugnames_read.specs.declared.buckets.AskedName.{AskedName}
use Rattle.debugnames_read.specs.declared.buckets.NameNumbers.{NameNumbers}
use Rattle.debugnames_read.specs.declared.names.IndexTables.{IndexTables}
use Rattle.debugnames_read.specs.Abbreviations.{abbreviations_in}
use Rattle.debugnames_read.specs.Results.{list_in}
use Rattle.debugnames_read.specs.Tables.{tables_seen}

-- the tables
abbrev pub tables_of : IndexTables → Tables
tables_of n = tables_seen n.tables

-- the string of a name, if it has one
abbrev pub string_at : Tables → List ℕ → ℕ → ℕ → Option (List ℕ)
string_at t strings base k = value_of (string_of t strings base k)

-- where the entries of a name begin
abbrev pub list_at : Tables → ℕ → Option Input
list_at t k = skip (nth t.entries.numbers k) t.pool >>=? λ x. Some x.1

-- a name has no fault
abbrev pub IsRight : IndexTables → ℕ → Type 0
IsRight n k = IsOk (name_at (tables_of n) (abbreviations_in (tables_of n).abbreviations) n.strings.now n.base k)

-- what tables and strings mean, or the first fault
unfoldable pub index_of : Tables → List ℕ → ℕ → Result NameIndex Fault
index_of t strings base = do
  abbrevs ← abbreviations t.abbreviations
  each (is_bucket t) (enumerate_from 0 t.buckets.numbers)
  names ← each (name_at t abbrevs strings base) (below t.counts.names)
  Ok (record { names = names })

-- the index that has no fault
abbrev pub index_in : Result NameIndex Fault → NameIndex
index_in (Ok index) = index
index_in (Err e) = record { names = [] }

-- the index
abbrev pub index_seen : IndexTables → NameIndex
index_seen n = index_in (index_of (tables_of n) n.strings.now n.base)

-- the index has no fault
abbrev pub IsOpened : IndexTables → Type 0
IsOpened n = IsOk (index_of (tables_of n) n.strings.now n.base)

-- ---- a name that is looked for

-- the numbers from i up to n
abbrev pub up_to : ℕ → ℕ → List ℕ
up_to i n = range_with_len i (n - i)

-- the name with this number is the one that is looked for
abbrev pub is_named : IndexTables → List ℕ → ℕ → Bool
is_named n name k = bytes_eq (unwrap_or (string_at (tables_of n) n.strings.now n.base k) []) name

-- the entries of the name with this number
abbrev pub hits_at : Tables → ℕ → List NameHit
hits_at t k = list_in (entries_of_name t (abbreviations_in t.abbreviations) k)

-- the entries of the names from i up to n that are the name
abbrev pub hits_between : IndexTables → List ℕ → ℕ → ℕ → List NameHit
hits_between n name i to = flat_map (hits_at (tables_of n)) (filter (is_named n name) (up_to i to))

-- where a hash is given it is that of the name, and the index has hashes for such names
abbrev pub IsHashBy : Tables → List ℕ → Option ℕ → Type 0
IsHashBy t name hash = IfSome hash (λ h. (h ≡ name_hash name) × (list_any (λ c. nat_le 0x80 c) name ≡ false) × (0 < t.counts.buckets))

-- the same of a name that is looked for
abbrev pub IsHashOf : Tables → AskedName → Type 0
IsHashOf t s = IsHashBy t s.name.now s.hash

-- the name with this number has another hash than the one that is given
abbrev pub is_other_hash : Tables → ℕ → Option ℕ → Bool
is_other_hash t k None = false
is_other_hash t k (Some hash) = not (nth t.hashes.numbers k == hash)

-- all that have the name are among these
abbrev pub Covers : IndexTables → List ℕ → NameNumbers → Type 0
Covers n name s = (k : ℕ) → k < (tables_of n).counts.names → is_named n name k ≡ true → (s.from ≤ k) × (k < s.to)
