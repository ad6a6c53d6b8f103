-- The front of an index and its tables.
use Rattle.std.specs.Prelude.{◌+◌, Bool, ◌==◌, if◌then◌else◌, length, Option, Some, Result, Ok}
use Rattle.ix_base.specs.declared.fault.Fault.{Fault}
use Rattle.ix_base.specs.Reading.{Input, initial_length, number, part, ◌>>=◌ as ◌>>=?◌}
use Rattle.index_model.specs.declared.index_code.TheConstants.{NAMES_LENGTH, NAMES_VERSION}
use Rattle.index_model.specs.Meaning.{◌>>=◌, ◌>>◌, fault, holds_or, some_or}
use Rattle.index_model.specs.NameTables.{Counts as CountsOf, Tables as TablesOf, counts, table, tables_behind}
use Rattle.index_model.specs.Strings.{offset_size}
use Rattle.debugnames_read.specs.declared.tables.Counts.{Counts}
use Rattle.debugnames_read.specs.declared.tables.Tables.{Tables}
use Rattle.debugnames_read.specs.Numbers.{table_seen}

-- the counts
abbrev pub counts_seen : Counts → CountsOf
counts_seen c = record { cus = c.cus; local = c.local; foreign = c.foreign; buckets = c.buckets; names = c.names; abbreviations = c.abbreviations; augmentation = c.augmentation }

-- the tables
abbrev pub tables_seen : Tables → TablesOf
tables_seen t = record { wide = t.wide; counts = counts_seen t.counts; buckets = table_seen t.buckets; hashes = table_seen t.hashes; strings = table_seen t.strings; entries = table_seen t.entries; abbreviations = t.abbreviations; pool = t.pool }

-- the tables behind the lists of units
unfoldable pub tables_listed : Bool → CountsOf → Input → Option TablesOf
tables_listed wide c units =
    table 4 c.buckets units >>=? λ buckets. table 4 (if c.buckets == 0 then 0 else c.names) buckets.1 >>=? λ hashes. table (offset_size wide) c.names hashes.1 >>=? λ strings. table (offset_size wide) c.names strings.1 >>=? λ entries.
    part c.abbreviations entries.1 >>=? λ area. Some (record { wide = wide; counts = c; buckets = buckets.0; hashes = hashes.0; strings = strings.0; entries = entries.0; abbreviations = area.0; pool = area.1 })

-- the length of all that follows: whether the format is the 64-bit one
unfoldable pub length_at : Input → Result (Bool × Input) Fault
length_at i = do
  len ← some_or (initial_length i) (fault NAMES_LENGTH i.at)
  holds_or (len.1.at + len.0.length == i.at + length i.rest) (fault NAMES_LENGTH i.at)
  Ok (len.0.wide, len.1)

-- the version
unfoldable pub version_at : Input → Result (record {} × Input) Fault
version_at i = do
  version ← some_or (number 2 i) (fault NAMES_VERSION i.at)
  holds_or (version.0 == 5) (fault NAMES_VERSION i.at)
  Ok (record {}, version.1)

-- counts and tables behind the padding
unfoldable pub tables_at : Bool → Input → Option TablesOf
tables_at wide i = number 2 i >>=? λ padding. counts padding.1 >>=? λ c. tables_behind wide c.0 c.1
