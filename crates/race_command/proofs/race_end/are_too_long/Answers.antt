use Rattle.std.proofs.Common.{ap, ◌∙◌, flat_map, length, length-append, take, arith}
use Rattle.race_command.specs.Runners.{round_bytes}
use Rattle.race_command.specs.declared.runner.Round.TheVariants.{During, After}
use Rattle.race_command.proofs.RunnerLaws.{texts_more}
use Rattle.race_command.proofs.race_end.are_too_long.Goals as goal

pub loop-runner-preserved : goal.loop-runner-preserved
loop-runner-preserved c =
    let rs = c.args.runners.now in
    let i = c.loop-runner.runner-index in
    let r = c.runner-item.result in
    let during = ap length (texts_more (round_bytes During) rs i r c.loop-runner-test.true c.runner-item.is) ∙ length-append (flat_map (round_bytes During) (take i rs)) (round_bytes During r) in
    let after = ap length (texts_more (round_bytes After) rs i r c.loop-runner-test.true c.runner-item.is) ∙ length-append (flat_map (round_bytes After) (take i rs)) (round_bytes After r) in
    omega (arith, during, after, c.loop-runner.invariant, c.held.ensures, c.saturating_add-total.ensures)
