-- The header of a `.debug_names` (DWARF 5, 6.1.1.4.1).
use Rattle.std.specs.Prelude.{ℕ, ◌+◌, ◌==◌, List, length, Result}
use Rattle.ix_base.specs.declared.fault.Fault.{Fault}
use Rattle.ix_base.specs.Reading.{number, input, initial_length, ◌>>=◌ as ◌>>=?◌}
use Rattle.index_model.specs.declared.index_code.TheConstants.{NAMES_LENGTH, NAMES_VERSION, NAMES_COUNTS}
use Rattle.index_model.specs.Meaning.{◌>>=◌, ◌>>◌, fault, holds_or, some_or}
use Rattle.index_model.specs.NameTables.{Tables, counts, tables_behind}

-- length, version and padding, then counts and tables; the index ends with its section
unfoldable pub tables : List ℕ → Result Tables Fault
tables bytes = do
  len ← some_or (initial_length (input bytes 0)) (fault NAMES_LENGTH 0)
  holds_or (len.1.at + len.0.length == length bytes) (fault NAMES_LENGTH 0)
  version ← some_or (number 2 len.1) (fault NAMES_VERSION len.1.at)
  holds_or (version.0 == 5) (fault NAMES_VERSION len.1.at)
  let first = len.1.at + 4
  padding ← some_or (number 2 version.1) (fault NAMES_COUNTS first)
  some_or (counts padding.1 >>=? λ c. tables_behind len.0.wide c.0 c.1) (fault NAMES_COUNTS first)
