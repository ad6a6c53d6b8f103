-- The law of a written `.gdb_index` that is read, as a statement (GDB manual, index section format).
use Rattle.std.specs.Prelude.{◌≡◌, ◌<◌, ◌≤◌, ℕ, ◌^◌, List, length, map, Option, None, option_map, Ok}
use Rattle.index_model.specs.declared.answer.Main.{Main}
use Rattle.index_model.specs.declared.entry.Entry.{Entry}
use Rattle.index_model.specs.declared.job.CacheKind.{CacheKind}
use Rattle.index_model.specs.declared.job.CacheKind.TheVariants.{Gdb8, Gdb9}
use Rattle.index_model.specs.declared.unit.Unit.{Unit as UnitHeader}
use Rattle.index_model.specs.Ranges.{unit_at}
use Rattle.index_model.specs.MainProgram.{main_of}
use Rattle.index_model.specs.Faults.{Built, built_of}
use Rattle.index_model.specs.Answers.{entries_in}
use Rattle.index_model.specs.Cache.{GdbBytes, cache_in}
use Rattle.index_model.specs.GdbIndex.{index_number, element, vector}
use Rattle.index_model.specs.GdbIndexRead.{GdbIndex, gdb_index, gdb_index_hits, number_at, main_name}

-- the units of an accepted file
abbrev pub units_in : Built → List UnitHeader
units_in b = map (λ w. w.unit) b.program.walks

-- the bytes are an index without a fault, which answers of these entries of the accepted file and of its addresses, and says this main
pub record ReadsAs (b : Built) (entries : List Entry) (main : Option Main) (bytes : List ℕ) : Type 0 where
  pub index : GdbIndex
  pub is : gdb_index bytes ≡ Ok index
  -- of each name the ascending distinct elements of the entries that have it and aren't linkage entries
  pub hits : (name : List ℕ) → gdb_index_hits index name ≡ vector (units_in b) entries name
  -- of each address the number that the unit at the address has in the index
  pub numbers : (a : ℕ) → number_at index a ≡ option_map (index_number (units_in b)) (unit_at b.ranges a)
  pub main_is : main_name index ≡ main

-- it answers as the file does
abbrev pub ReadsAlike : Built → Option Main → List ℕ → Type 0
ReadsAlike b main bytes = ReadsAs b (entries_in b) main bytes

-- the index of a kind, of an accepted file, where it isn't too large
abbrev ReadsAlikeOf : CacheKind → (Built → Option Main) → Type 0
ReadsAlikeOf kind main = (file : List ℕ) (b : Built) (bytes : List ℕ) → built_of file ≡ Ok b → cache_in kind b ≡ GdbBytes bytes → ReadsAlike b (main b) bytes

-- version 8 says no main
abbrev pub GdbIndex8ReadsAlike : Type 0
GdbIndex8ReadsAlike = ReadsAlikeOf Gdb8 (λ b. None)

-- version 9 says the file's main
abbrev pub GdbIndex9ReadsAlike : Type 0
GdbIndex9ReadsAlike = ReadsAlikeOf Gdb9 (λ b. main_of b.program b.links)

-- ---- what numbers and elements say

-- no two units have one number in an index
abbrev pub NumbersAreApart : Type 0
NumbersAreApart = (units : List UnitHeader) (i j : ℕ) → i < length units → j < length units → index_number units i ≡ index_number units j → i ≡ j

-- the entries have one unit and one kind, and both are static or neither is
pub record SayTheSame (d e : Entry) : Type 0 where
  pub unit : d.unit ≡ e.unit
  pub kind : d.kind ≡ e.kind
  pub local : d.local ≡ e.local

-- entries with one element say the same, where a unit's number has 24 bits
abbrev pub ElementsAreApart : Type 0
ElementsAreApart = (units : List UnitHeader) (d e : Entry) → length units ≤ 2 ^ 24 → d.unit < length units → e.unit < length units → element units d ≡ element units e → SayTheSame d e
