use Rattle.std.proofs.Common.{◌≤◌, take}
use Rattle.query_text.specs.Sending.{Sends}
use Rattle.query_text.proofs.QuotedBytes.{bytes_of}
use Rattle.query_text.proofs.send.send_quoted.Given as goal

-- what stands for the bytes so far was sent
abbrev pub invariant-loop-byte : goal.invariant-loop-byte
invariant-loop-byte g l = record {
  sent : Sends (g.K.Sink.written l.initial.out) l.initial.waiting (g.K.Sink.written l.out) l.waiting (bytes_of (take l.byte-index l.name));
  counts : g.K.Sink.write_faults l.initial.out ≤ g.K.Sink.write_faults l.out;
}
