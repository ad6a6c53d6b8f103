-- What is left of a look-up.
use Rattle.std.specs.Prelude.{IsOk, ℕ, ◌+◌, ◌≤◌, List, [], ◌++◌, length, Option, Some, None}
use Rattle.ix_base.specs.Reading.{Input}
use Rattle.index_model.specs.NameIndexRead.{NameHit, entries_at}
use Rattle.index_model.specs.NameTables.{Tables}
use Rattle.debugnames_read.specs.declared.buckets.AskedName.{AskedName}
use Rattle.debugnames_read.specs.declared.hits.Left.{Left}
use Rattle.debugnames_read.specs.declared.names.IndexTables.{IndexTables}
use Rattle.debugnames_read.specs.Abbreviations.{abbreviations_in}
use Rattle.debugnames_read.specs.Names.{hits_between, tables_of, IsHashOf, IsOpened}
use Rattle.debugnames_read.specs.Results.{list_in}

-- the entries of a list that begins here
abbrev pub entries_left : Tables → Option Input → List NameHit
entries_left t None = []
entries_left t (Some i) = list_in (entries_at t (abbreviations_in t.abbreviations) (length i.rest + 1) i)

-- they have no fault
abbrev pub IsList : Tables → Option Input → Type 0
IsList t None = Unit {0}
IsList t (Some i) = IsOk (entries_at t (abbreviations_in t.abbreviations) (length i.rest + 1) i)

-- the entries of the list, and those of the names behind it
abbrev pub hits_left : IndexTables → List ℕ → Left → List NameHit
hits_left n name l = entries_left (tables_of n) l.entries ++ hits_between n name l.names.from l.names.to

-- what is left is of the index
pub record IsLeft (n : IndexTables) (l : Left) : Type 0 where
  pub list : IsList (tables_of n) l.entries
  pub names : l.names.to ≤ (tables_of n).counts.names

-- a look-up in an index without a fault
pub record IsLookUp (n : IndexTables) (s : AskedName) (l : Left) : Type 0 where
  pub opened : IsOpened n
  pub hash : IsHashOf (tables_of n) s
  pub left : IsLeft n l
