use Rattle.std.proofs.Common.{◌≡◌, ◌≤◌, ◌++◌, map}
use Rattle.debugnames_read.specs.Entries.{hit_seen}
use Rattle.name_quotes.specs.Quotes.{spelled}
use Rattle.query_text.specs.Sending.{Sends}
use Rattle.query_text.proofs.HitLaws.{lines}
use Rattle.query_text.proofs.names.send_each.Given as goal

-- the texts of the entries so far were sent, and the others are still to come
abbrev pub invariant-loop-hit : goal.invariant-loop-hit
invariant-loop-hit g l = record {
  sent : Sends (g.K.Sink.written l.initial.out) l.initial.waiting (g.K.Sink.written l.out) l.waiting (lines (spelled l.spelling l.name) (map hit_seen l.yielded));
  left : map hit_seen l.yielded ++ l.hit-iterator ≡ l.initial.hit-iterator;
  counts : g.K.Sink.write_faults l.initial.out ≤ g.K.Sink.write_faults l.out;
}
