use Rattle.std.proofs.Common.{◌≡◌, ◌+◌, ◌-◌, ◌^◌, flat_map, length, min, take}
use Rattle.race_command.specs.Runners.{round_bytes}
use Rattle.race_command.specs.declared.runner.Round.TheVariants.{During, After}
use Rattle.race_command.proofs.race_end.are_too_long.Given as goal

-- the bytes of the readers so far
abbrev pub invariant-loop-runner : goal.invariant-loop-runner
invariant-loop-runner l =
    l.total ≡ min (length (flat_map (round_bytes During) (take l.runner-index l.runners)) + length (flat_map (round_bytes After) (take l.runner-index l.runners))) (2 ^ 64 - 1)
