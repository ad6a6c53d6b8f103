use Rattle.std.proofs.Common.{◌≡◌, ◌++◌, take, map}
use Rattle.index_model.specs.Answers.{entries_at}
use Rattle.index_model.specs.NameIndex.{all_indexed}
use Rattle.debugnames_write.specs.Seen.{items_seen, nameless}
use Rattle.debugnames_write.proofs.source.Source.push_items.Given as goal

abbrev pub invariant-loop-place : goal.invariant-loop-place
invariant-loop-place l = items_seen l.items.items ≡ items_seen l.initial.items.items ++ map nameless (all_indexed l.self.units.now (entries_at l.self.entries.now (take l.place-index l.places)))
