use Rattle.std.proofs.Common.{◌≤◌, take}
use Rattle.query_text.specs.Sending.{Sends}
use Rattle.query_text.specs.Spelled.{texts_at}
use Rattle.query_text.proofs.reply.send_each.Given as goal

-- the texts of the entries so far were sent
abbrev pub invariant-loop-place : goal.invariant-loop-place
invariant-loop-place g l = record {
  sent : Sends (g.K.Sink.written l.initial.out) l.initial.waiting (g.K.Sink.written l.out) l.waiting (texts_at l.spelling l.entries (take l.place-index l.places));
  counts : g.K.Sink.write_faults l.initial.out ≤ g.K.Sink.write_faults l.out;
}
