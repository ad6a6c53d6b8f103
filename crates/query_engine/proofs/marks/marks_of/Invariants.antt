use Rattle.std.proofs.Common.{◌≤◌, length, take}
use Rattle.query_engine.specs.Labels.{labels_from}
use Rattle.query_engine.specs.Marks.{AreMarksOf}
use Rattle.query_engine.specs.Seen.{labels_seen}
use Rattle.query_engine.proofs.marks.marks_of.Given as goal

abbrev pub invariant-loop-index : goal.invariant-loop-index
invariant-loop-index l = record {
  say : AreMarksOf (labels_from l.fn.first (take l.index l.entries)) (labels_seen l.labels.list.items) l.marks.items;
  few : length l.labels.list.items ≤ l.index;
}
