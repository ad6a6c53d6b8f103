use Rattle.std.proofs.Common.{◌≡◌, ◌-◌, ◌∙◌, sym, arith}
use Rattle.cxx_spelling.specs.Seen.{seen}
use Rattle.cxx_spelling.specs.Translation.{Finished, step}
use Rattle.cxx_spelling.proofs.RunLaws.{run_finished, run_out, reaches_finished, runs_to}
use Rattle.cxx_spelling.proofs.translation.Translation.run.Goals as goal

pub returns-in-Finished : goal.returns-in-Finished
returns-in-Finished c =
    let left = seen c.step.new.self in
    let reached : step (seen c.loop-made.self) ≡ Finished left =
    reaches_finished c.in_ok-step.field-0 left _ c.in-Finished.is c.in_ok-step.ensures in
    let text = sym c.loop-made.invariant ∙ run_finished c.args.steps c.loop-made._made (seen c.loop-made.self) left (omega arith) reached in
    runs_to c.is_whole.result left _ text c.is_whole.ensures

pub returns : goal.returns
returns c =
    let none_left : c.args.steps - c.loop-made._made ≡ 0 = omega arith in
    sym c.loop-made.invariant ∙ run_out _ _ none_left
