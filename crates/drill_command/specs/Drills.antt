-- What `drill` writes of a generated program and of its indexes.
use Rattle.std.specs.Prelude.{◌≡◌, ◌⊎◌, ℕ, List, [], ◌∷◌, length, codes, decimal, Option, Some, None, Ok}
use Rattle.index_model.specs.declared.answer.Main.{Main}
use Rattle.index_model.specs.declared.job.CacheKind.TheVariants.{Gdb8, Names}
use Rattle.index_model.specs.Answers.{entries_in}
use Rattle.index_model.specs.Cache.{GdbBytes, NameBytes, DoesNotFit, cache_in}
use Rattle.index_model.specs.Faults.{Built, built_of}
use Rattle.index_model.specs.MainProgram.{main_of}
use Rattle.index_model.specs.Texts.{line}
use Rattle.query_engine.specs.Counts.{name_count, without_linkage}

-- How many units and entries a program has, and how many distinct names those of its entries have that aren't linkage entries;
-- the lengths of its `.gdb_index`, of its `.debug_names` and of the strings that this adds; and the name of its main program.
pub record Totals : Type 0 where
  pub units : ℕ
  pub entries : ℕ
  pub names : ℕ
  pub gdb_index : ℕ
  pub name_index : ℕ
  pub strings : ℕ
  pub main : List ℕ

-- the line that says so
abbrev pub totals_line : Totals → List ℕ
totals_line t = line (codes "units" ∷ decimal t.units ∷ codes "entries" ∷ decimal t.entries ∷ codes "names" ∷ decimal t.names ∷ codes "gdb8" ∷ decimal t.gdb_index ∷ codes "dbgnames" ∷ decimal t.name_index ∷ decimal t.strings ∷ codes "main" ∷ t.main ∷ [])

-- the name of the main program; none is empty
abbrev pub main_word : Option Main → List ℕ
main_word None = []
main_word (Some m) = m.name

-- of an accepted file, by its indexes
abbrev pub totals_of : Built → List ℕ → List ℕ → List ℕ → Totals
totals_of b gdb names strings = record {
  units = length b.program.walks;
  entries = length (entries_in b);
  names = name_count (without_linkage (entries_in b));
  gdb_index = length gdb;
  name_index = length names;
  strings = length strings;
  main = main_word (main_of b.program b.links);
}

-- the text is that of these bytes, which have no fault and whose indexes fit their formats
pub record IsSummaryOf (file text : List ℕ) : Type 0 where
  pub built : Built
  pub accepted : built_of file ≡ Ok built
  pub gdb : List ℕ
  pub gdb_is : cache_in Gdb8 built ≡ GdbBytes gdb
  pub names : List ℕ
  pub strings : List ℕ
  pub names_is : cache_in Names built ≡ NameBytes names strings
  pub text_is : text ≡ totals_line (totals_of built gdb names strings)

-- one of the indexes of these bytes, which have no fault, doesn't fit its format
pub record HasTooLarge (file : List ℕ) : Type 0 where
  pub built : Built
  pub accepted : built_of file ≡ Ok built
  pub large : (cache_in Gdb8 built ≡ DoesNotFit) ⊎ (cache_in Names built ≡ DoesNotFit)
