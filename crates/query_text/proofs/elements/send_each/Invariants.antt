use Rattle.std.proofs.Common.{◌≤◌, take}
use Rattle.name_quotes.specs.Quotes.{spelled}
use Rattle.query_text.specs.Sending.{Sends}
use Rattle.query_text.proofs.ElementLaws.{texts}
use Rattle.query_text.proofs.elements.send_each.Given as goal

-- the texts of the elements so far were sent
abbrev pub invariant-loop-i : goal.invariant-loop-i
invariant-loop-i g l = record {
  sent : Sends (g.K.Sink.written l.initial.out) l.initial.waiting (g.K.Sink.written l.out) l.waiting (texts (spelled l.spelling l.name) l.elements (take l.i l.elements));
  counts : g.K.Sink.write_faults l.initial.out ≤ g.K.Sink.write_faults l.out;
}
