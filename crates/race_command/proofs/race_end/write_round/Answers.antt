use Rattle.std.proofs.Common.{ap, ◌∙◌, subst}
use Rattle.outside.specs.Written.{AppendsPrefix}
use Rattle.query_text.proofs.SendingLaws.{on_err}
use Rattle.race_command.specs.Runners.{round_bytes}
use Rattle.race_command.proofs.RunnerLaws.{part_of_texts}
use Rattle.race_command.proofs.race_end.write_round.Goals as goal

pub returns-in_err-write_all-clause-left : goal.returns-in_err-write_all-clause-left
returns-in_err-write_all-clause-left g c =
    let bytes = c.bytes.ensures ∙ ap (λ s. s.text.bytes) c.session.ensures in
    on_err c.from_residual.result (part_of_texts (round_bytes c.args.round) c.args.runners.now c.loop-runner.runner-index c.runner-item.result c.loop-runner-test.true c.runner-item.is (g.K.Sink.written c.args.out.now) (g.K.Sink.written c.loop-runner.out) (g.K.Sink.written c.write_all.new.out) c.loop-runner.invariant.written
    (subst (AppendsPrefix (g.K.Sink.written c.loop-runner.out) (g.K.Sink.written c.write_all.new.out)) bytes c.in_err-write_all.ensures.left))
