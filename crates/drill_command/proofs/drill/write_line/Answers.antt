use Rattle.std.proofs.Common.{◌≡◌, sym, subst, ◌∙◌}
use Rattle.drill_command.specs.Drills.{totals_line}
use Rattle.command_base.specs.Replies.{Wrote}
use Rattle.drill_command.specs.Summaries.{totals_seen, SaysTotals}
use Rattle.command_base.specs.declared.status.Status.{Status}
use Rattle.command_base.proofs.ReplyLaws.{sent_answer}
use Rattle.drill_command.proofs.drill.write_line.Goals as goal

pub returns-in-Ok-clause-wrote : goal.returns-in-Ok-clause-wrote
returns-in-Ok-clause-wrote g c =
    let old = g.K.Sink.written c.args.out.now in
    let new = g.K.Sink.written c.write_all.new.out in
    let says = SaysTotals (totals_seen c.args.totals.now) in
    let is : c.deref.result.now ≡ totals_line (totals_seen c.args.totals.now) = c.deref.ensures.value ∙ c.in-Ok.ensures in
    subst (λ (s : Status). Wrote says s old new) (sym c.ended.ensures) (sent_answer says old new c.deref.result.now c.write_all.result is c.write_all.ensures.ok c.write_all.ensures.left)
