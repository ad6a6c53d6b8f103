use Rattle.std.proofs.Common.{◌≡◌, ◌<◌, ◌≤◌, ℕ, false, length, get_or}
use Rattle.stage_lock.specs.Seen.{IsPassOf}
use Rattle.race_command.specs.Runners.{Told}
use Rattle.race_command.specs.declared.runner.Runner.{Runner}
use Rattle.race_command.proofs.rounds.tell.Given as goal

-- the readers so far were told, and the others are as they were
abbrev pub invariant-loop-runner : goal.invariant-loop-runner
invariant-loop-runner l = record {
  own : IsPassOf l.board l.pass;
  idle : l.pass.holding ≡ false;
  floor : l.pass.floor ≡ l.initial.pass.floor;
  count : length l.runners ≡ length l.initial.runners;
  told : (i : ℕ) (d : Runner) → i < l.runner-index → Told l.initial.pass.floor (get_or l.initial.runners i d) (get_or l.runners i d);
  others : (i : ℕ) (d : Runner) → l.runner-index ≤ i → i < length l.initial.runners → get_or l.runners i d ≡ get_or l.initial.runners i d;
}
