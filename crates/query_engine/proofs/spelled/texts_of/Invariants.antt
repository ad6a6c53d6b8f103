use Rattle.std.proofs.Common.{take}
use Rattle.query_engine.specs.Marked.{AreTextsOf}
use Rattle.query_engine.specs.Seen.{texts_seen}
use Rattle.query_engine.proofs.spelled.texts_of.Given as goal

abbrev pub invariant-loop-label : goal.invariant-loop-label
invariant-loop-label l = AreTextsOf l.way (take l.label-index l.labels) (texts_seen l.texts.items) l.numbers.items
