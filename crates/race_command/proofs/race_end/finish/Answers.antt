use Rattle.std.proofs.Common.{Bool, refl, sym, ap, subst, ◌∙◌}
use Rattle.outside.specs.Counts.{Rose}
use Rattle.race_command.specs.RaceEnds.{race_status, IsFinished, lost, written, cut}
use Rattle.command_base.specs.declared.status.Status.{Status}
use Rattle.race_command.proofs.race_end.finish.Goals as goal

pub returns-then-wants_memory-clause-finished : goal.returns-then-wants_memory-clause-finished
returns-then-wants_memory-clause-finished g c = lost (sym c.wants_memory.ensures ∙ c.if-wants_memory.true) refl

pub returns-in-Ok-clause-finished : goal.returns-in-Ok-clause-finished
returns-in-Ok-clause-finished g c =
    subst (λ (s : Status). IsFinished c.args.runners.now c.args.ended (g.K.Sink.written c.args.out.now) (g.K.Sink.written c.write_texts.new.out) (Rose (g.K.Sink.write_faults c.args.out.now) (g.K.Sink.write_faults c.write_texts.new.out)) s)
    (sym (c.race_status-status.ensures ∙ ap (λ (b : Bool). race_status b c.args.ended) c.any_long.ensures))
    (written (sym c.wants_memory.ensures ∙ c.if-wants_memory.false) c.in-Ok.ensures.ok)

pub returns-in-Err-clause-finished : goal.returns-in-Err-clause-finished
returns-in-Err-clause-finished g c = cut (sym c.wants_memory.ensures ∙ c.if-wants_memory.false) c.in-Err.ensures.failed c.in-Err.ensures.left
