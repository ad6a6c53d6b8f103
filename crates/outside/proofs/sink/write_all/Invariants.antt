use Rattle.std.proofs.Common.{length, ◌-◌, ◌≤◌, take}
use Rattle.outside.specs.Written.{Appends}
use Rattle.outside.proofs.sink.write_all.Given as goal

abbrev pub invariant-loop-done : goal.invariant-loop-done
invariant-loop-done g l = record {
  within : l.done ≤ length l.bytes;
  appended : Appends (g.K.Sink.written l.initial.out) (g.K.Sink.written l.out) (take l.done l.bytes);
  counts : g.K.Sink.write_faults l.initial.out ≤ g.K.Sink.write_faults l.out;
}

abbrev pub decreases-loop-done : goal.decreases-loop-done
decreases-loop-done g l = length l.bytes - l.done
