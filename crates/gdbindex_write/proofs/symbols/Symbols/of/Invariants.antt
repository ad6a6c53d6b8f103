use Rattle.std.proofs.Common.{◌≡◌, length, take}
use Rattle.query_engine.specs.Texts.{table_names}
use Rattle.gdbindex_write.specs.Symbols.{AreWithin, groups_seen}
use Rattle.gdbindex_write.proofs.GroupLaws.{groups_by}
use Rattle.gdbindex_write.proofs.symbols.Symbols.of.Given as goal

abbrev pub invariant-loop-index : goal.invariant-loop-index
invariant-loop-index l = record {
  are : groups_seen l.symbols.elements.items l.symbols.list.items ≡ groups_by l.numbers l.table (take l.index (table_names l.table));
  within : AreWithin (length l.symbols.elements.items) l.symbols.list.items;
}
