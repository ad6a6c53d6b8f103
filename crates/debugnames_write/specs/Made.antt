-- What is made of the entries of a table before the index is laid out.
use Rattle.std.specs.Prelude.{◌≡◌, List}
use Rattle.index_model.specs.declared.entry.Entry.{Entry}
use Rattle.index_model.specs.declared.unit.Unit.{Unit as UnitHeader}
use Rattle.index_model.specs.NameIndex.{Row as IndexRow, all_indexed, rows_of}
use Rattle.debugnames_write.specs.declared.groups.NameEntries.{NameEntries}
use Rattle.debugnames_write.specs.Groups.{AreGroupsOf}

-- the entries that the index has by their names, and the rows of them
pub record AreMadeOf (units : List UnitHeader) (rows : List IndexRow) (groups : List NameEntries) (entries : List Entry) : Type 0 where
  pub groups_are : AreGroupsOf (all_indexed units entries) groups
  pub rows_are : rows ≡ rows_of (all_indexed units entries)
