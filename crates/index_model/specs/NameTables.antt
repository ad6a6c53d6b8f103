-- The counts and the tables of a `.debug_names` (DWARF 5, 6.1.1.4.1 to 6.1.1.4.6).
use Rattle.std.specs.Prelude.{ℕ, zero, suc, ◌+◌, ◌*◌, ◌/◌, Bool, ◌==◌, if◌then◌else◌, List, [], ◌∷◌, Option, Some}
use Rattle.ix_base.specs.Reading.{Input, number, part, ◌>>=◌}
use Rattle.index_model.specs.Strings.{offset_size}

-- as many numbers of so many bytes each
unfoldable pub numbers : ℕ → ℕ → Input → Option (List ℕ × Input)
numbers size zero i = Some ([], i)
numbers size (suc count) i = number size i >>= λ first. numbers size count first.1 >>= λ others. Some (first.0 ∷ others.0, others.1)

-- numbers that stand in a table, and where the first of them stands
pub record Table : Type 0 where
  pub at : ℕ
  pub numbers : List ℕ

-- a table of as many numbers of so many bytes each
abbrev pub table : ℕ → ℕ → Input → Option (Table × Input)
table size count i = numbers size count i >>= λ ns. Some (record { at = i.at; numbers = ns.0 }, ns.1)

-- the counts of a header, in their order
pub record Counts : Type 0 where
  pub cus : ℕ
  pub local : ℕ
  pub foreign : ℕ
  pub buckets : ℕ
  pub names : ℕ
  pub abbreviations : ℕ
  pub augmentation : ℕ

-- seven numbers of 4 bytes
unfoldable pub counts : Input → Option (Counts × Input)
counts i = do
  cus ← number 4 i
  local ← number 4 cus.1
  foreign ← number 4 local.1
  buckets ← number 4 foreign.1
  names ← number 4 buckets.1
  abbreviations ← number 4 names.1
  augmentation ← number 4 abbreviations.1
  Some (record { cus = cus.0; local = local.0; foreign = foreign.0; buckets = buckets.0; names = names.0; abbreviations = abbreviations.0; augmentation = augmentation.0 }, augmentation.1)

-- what stands behind the counts; without buckets there are no hashes
pub record Tables : Type 0 where
  pub wide : Bool
  pub counts : Counts
  pub buckets : Table
  pub hashes : Table
  pub strings : Table
  pub entries : Table
  pub abbreviations : Input
  pub pool : Input

-- the least multiple of 4 that isn't less
abbrev pub rounded : ℕ → ℕ
rounded n = (n + 3) / 4 * 4

-- the tables in their order behind the augmentation string and the lists of units; none where one of them passes the end
unfoldable pub tables_behind : Bool → Counts → Input → Option Tables
tables_behind wide c i = do
  text ← part (rounded c.augmentation) i
  units ← part ((c.cus + c.local) * offset_size wide + c.foreign * 8) text.1
  buckets ← table 4 c.buckets units.1
  hashes ← table 4 (if c.buckets == 0 then 0 else c.names) buckets.1
  strings ← table (offset_size wide) c.names hashes.1
  entries ← table (offset_size wide) c.names strings.1
  area ← part c.abbreviations entries.1
  Some (record { wide = wide; counts = c; buckets = buckets.0; hashes = hashes.0; strings = strings.0; entries = entries.0; abbreviations = area.0; pool = area.1 })
