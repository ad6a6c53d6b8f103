use Rattle.std.proofs.Common.{◌≡◌, take, map}
use Rattle.std.specs.Prelude.{flat_map, sum_by}
use Rattle.index_model.specs.NameIndex.{all_indexed}
use Rattle.query_engine.specs.Listed.{names_of}
use Rattle.debugnames_write.specs.Counts.{count_of}
use Rattle.debugnames_write.specs.Groups.{entries_of}
use Rattle.debugnames_write.specs.Items.{counted, names_counted, some_counted}
use Rattle.debugnames_write.specs.Seen.{items_seen}
use Rattle.debugnames_write.proofs.listed.items_of.Given as goal

abbrev pub invariant-loop-name : goal.invariant-loop-name
invariant-loop-name l = record {
  passed : l.passed ≡ sum_by count_of (take l.name-index l.part.names.now);
  names : names_counted l.listed.names.items ≡ some_counted (map (counted (all_indexed l.source.units.now l.source.entries.now)) (names_of (take l.name-index l.part.names.now)));
  items : items_seen l.listed.items.items ≡ flat_map (entries_of (all_indexed l.source.units.now l.source.entries.now)) (names_of (take l.name-index l.part.names.now));
}
