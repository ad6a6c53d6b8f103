use Rattle.std.proofs.Common.{subst}
use Rattle.index_model.specs.Gives.{Stop}
use Rattle.index_model.specs.Gives.{StopsAs}
use Rattle.reach_model.specs.AddressSets.{address_sets}
use Rattle.aranges_command.proofs.ComparisonLaws.{wrote_comparison, wrote_fault}
use Rattle.aranges_command.proofs.aranges.compare_table.Goals as goal

pub returns-in-Ok-clause-wrote : goal.returns-in-Ok-clause-wrote
returns-in-Ok-clause-wrote g c =
    wrote_comparison c.args.image.now c.requires.image c.args.own.now c.requires.map c.in-Ok.table c.in-Ok.ensures c.compare.result c.compare.ensures.same c.compare.ensures.first c.write_comparison.result (g.K.Sink.written c.args.out.now) (g.K.Sink.written c.write_comparison.new.out) c.write_comparison.ensures.wrote

pub returns-in-Err-Cause-clause-wrote : goal.returns-in-Err-Cause-clause-wrote
returns-in-Err-Cause-clause-wrote g c =
    let read = subst (λ (s : Stop). StopsAs s (address_sets c.args.image.now.sections c.args.image.now.units)) c.in-Err-Cause.field-0-is c.in-Err-Cause.ensures in
    wrote_fault c.args.image.now c.requires.image c.args.own.now c.requires.map c.in-Err-Cause.fault read c.refuse_table.result (g.K.Sink.written c.args.out.now) (g.K.Sink.written c.refuse_table.new.out) c.refuse_table.ensures.wrote
