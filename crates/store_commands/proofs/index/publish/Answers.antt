use Rattle.std.proofs.Common.{◌≡◌, Some, sym, ap, ◌∙◌}
use Rattle.index_model.specs.Parts.{Parts}
use Rattle.stage_core.specs.Outputs.{parts_seen}
use Rattle.command_base.proofs.BoardLaws.{fault_of}
use Rattle.store_commands.proofs.StoreLaws.{refusal_wrote}
use Rattle.store_commands.proofs.index.publish.Goals as goal

pub returns-in-Some-clause-wrote : goal.returns-in-Some-clause-wrote
returns-in-Some-clause-wrote g c =
    let r = c.args.reader.now in
    let there : (parts_seen c.parts.result.now).fault ≡ Some c.in-Some.fault = cc c.in-Some.is in
    let first = fault_of r c.parts.ensures.right c.in-Some.fault (sym (ap (λ (p : Parts). p.fault) c.parts.ensures.parts) ∙ there) in
    refusal_wrote r.board.subject.file c.args.form c.in-Some.fault first c.refuse.result (g.K.Sink.written c.args.out.now) (g.K.Sink.written c.refuse.new.out) c.refuse.ensures.wrote
