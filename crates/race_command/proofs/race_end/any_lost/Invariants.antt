use Rattle.std.proofs.Common.{◌≡◌, drop}
use Rattle.std.specs.List.{list_any}
use Rattle.race_command.specs.RaceEnds.{has_lost}
use Rattle.race_command.proofs.race_end.any_lost.Given as goal

-- so far memory was refused to none
abbrev pub invariant-loop-runner : goal.invariant-loop-runner
invariant-loop-runner l = list_any has_lost (drop l.runner-index l.runners) ≡ list_any has_lost l.runners
