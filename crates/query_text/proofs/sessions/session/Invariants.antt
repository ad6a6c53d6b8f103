use Rattle.std.proofs.Common.{◌≡◌, ◌≤◌, [], length}
use Rattle.query_text.specs.Buffers.{longest_line}
use Rattle.query_text.proofs.SessionLaws.{Reading}
use Rattle.query_text.proofs.sessions.session.Given as goal

abbrev pub invariant-loop-left : goal.invariant-loop-left
invariant-loop-left g l = record {
  reading : Reading l.spelling (g.S.Source.left l.initial.input) (g.S.Source.left l.input) l.initial.reader l.reader (g.K.Sink.written l.initial.out) (g.K.Sink.written l.out) l.line.part l.left;
  searched : l.line.fresh ≡ [];
  short : length l.line.part ≤ longest_line;
  reads : g.S.Source.read_faults l.initial.input ≤ g.S.Source.read_faults l.input;
  writes : g.K.Sink.write_faults l.initial.out ≤ g.K.Sink.write_faults l.out;
}

abbrev pub decreases-loop-left : goal.decreases-loop-left
decreases-loop-left g l = l.left
