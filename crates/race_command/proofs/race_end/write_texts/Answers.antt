use Rattle.std.proofs.Common.{flat_map, []}
use Rattle.std.proofs.lemmas.Result.{on_err_weaker}
use Rattle.outside.proofs.WrittenLaws.{appends_more_prefix}
use Rattle.query_text.proofs.SendingLaws.{on_err, prefix_of_text}
use Rattle.race_command.specs.Runners.{round_bytes}
use Rattle.race_command.specs.declared.runner.Round.TheVariants.{During, After}
use Rattle.race_command.proofs.race_end.write_texts.Goals as goal

pub returns-in_err-write_round-clause-left : goal.returns-in_err-write_round-clause-left
returns-in_err-write_round-clause-left g c =
    on_err c.from_residual.result (prefix_of_text (g.K.Sink.written c.args.out.now) (g.K.Sink.written c.write_round.new.out) [] (flat_map (round_bytes During) c.args.runners.now) (flat_map (round_bytes After) c.args.runners.now) c.in_err-write_round.ensures.left)

pub returns-clause-left : goal.returns-clause-left
returns-clause-left g c =
    on_err_weaker c.write_round-2.result (λ part. appends_more_prefix (g.K.Sink.written c.args.out.now) (g.K.Sink.written c.write_round.new.out) (g.K.Sink.written c.write_round-2.new.out) (flat_map (round_bytes During) c.args.runners.now) (flat_map (round_bytes After) c.args.runners.now) c.in_ok-write_round.ensures.ok part) c.write_round-2.ensures.left
