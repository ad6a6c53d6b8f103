use Rattle.std.proofs.Common.{◌≡◌, ◌-◌}
use Rattle.cxx_spelling.specs.Seen.{seen}
use Rattle.cxx_spelling.specs.Translation.{run}
use Rattle.cxx_spelling.proofs.translation.Translation.run.Given as goal

-- what is still to be run gives what the whole run gives
abbrev pub invariant-loop-made : goal.invariant-loop-made
invariant-loop-made l = run (l.steps - l._made) (seen l.self) ≡ run l.fn.steps (seen l.fn.self)
