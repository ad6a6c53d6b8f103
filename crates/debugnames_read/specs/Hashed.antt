-- The hashes of names that are known.
use Rattle.std.specs.Prelude.{◌≡◌, ◌-◌, ℕ, Option, Some}
use Rattle.index_model.specs.Layout.{nth}
use Rattle.debugnames_read.specs.declared.names.IndexTables.{IndexTables}
use Rattle.debugnames_read.specs.Names.{tables_of}
use Rattle.string_ends.specs.declared.formula.Formula.TheVariants.{NameIndex}
use Rattle.string_ends.specs.declared.hashed.Hashed.{Hashed}
use Rattle.string_ends.specs.Tails.{IsHashed}

-- what is known of the string of a name is so
abbrev pub IsHashOfName : IndexTables → ℕ → Option Hashed → Type 0
IsHashOfName n k known = (h : Hashed) → known ≡ Some h → IsHashed NameIndex n.strings.now (nth (tables_of n).strings.numbers k - n.base) h
