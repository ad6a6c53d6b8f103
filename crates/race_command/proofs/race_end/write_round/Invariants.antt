use Rattle.std.proofs.Common.{◌≤◌, flat_map, take}
use Rattle.outside.specs.Written.{Appends}
use Rattle.race_command.specs.Runners.{round_bytes}
use Rattle.race_command.proofs.race_end.write_round.Given as goal

-- the texts of the readers so far were written
abbrev pub invariant-loop-runner : goal.invariant-loop-runner
invariant-loop-runner g l = record {
  written : Appends (g.K.Sink.written l.initial.out) (g.K.Sink.written l.out) (flat_map (round_bytes l.round) (take l.runner-index l.runners));
  counts : g.K.Sink.write_faults l.initial.out ≤ g.K.Sink.write_faults l.out;
}
