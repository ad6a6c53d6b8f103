use Rattle.std.proofs.Common.{◌≤◌, ◌++◌, length}
use Rattle.query_text.specs.WholeLines.{HasNoNewline}
use Rattle.query_text.proofs.SessionLaws.{AtLine}
use Rattle.query_text.proofs.sessions.answer_whole.Given as goal

abbrev pub invariant-loop-end : goal.invariant-loop-end
invariant-loop-end g l = record {
  at : AtLine l.spelling l.initial.reader (g.K.Sink.written l.initial.out) (l.initial.line.part ++ l.initial.line.fresh) l.reader (g.K.Sink.written l.out) (l.line.part ++ l.line.fresh);
  one_line : HasNoNewline l.line.part;
  counts : g.K.Sink.write_faults l.initial.out ≤ g.K.Sink.write_faults l.out;
}

abbrev pub decreases-loop-end : goal.decreases-loop-end
decreases-loop-end g l = length l.line.fresh
