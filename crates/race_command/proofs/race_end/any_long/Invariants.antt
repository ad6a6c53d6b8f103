use Rattle.std.proofs.Common.{◌≡◌, drop}
use Rattle.std.specs.List.{list_any}
use Rattle.race_command.specs.RaceEnds.{has_long}
use Rattle.race_command.proofs.race_end.any_long.Given as goal

-- so far no line was too long
abbrev pub invariant-loop-runner : goal.invariant-loop-runner
invariant-loop-runner l = list_any has_long (drop l.runner-index l.runners) ≡ list_any has_long l.runners
