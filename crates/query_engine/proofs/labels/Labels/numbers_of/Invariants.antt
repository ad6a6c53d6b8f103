use Rattle.std.proofs.Common.{take}
use Rattle.query_engine.specs.Marks.{AreNumbered}
use Rattle.query_engine.specs.Seen.{labels_seen}
use Rattle.query_engine.proofs.labels.Labels.numbers_of.Given as goal

abbrev pub invariant-loop-label : goal.invariant-loop-label
invariant-loop-label l = AreNumbered (labels_seen l.initial.self.list.items) (labels_seen (take l.label-index l.labels)) (labels_seen l.self.list.items) l.numbers.items
