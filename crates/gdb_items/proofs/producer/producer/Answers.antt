use Rattle.std.proofs.Common.{sym, ap, ◌∙◌}
use Rattle.std.specs.Prelude.{option_map}
use Rattle.index_model.specs.FormSeen.{seen}
use Rattle.gdb_items.proofs.ProducerLaws.{producer_text}
use Rattle.gdb_items.proofs.producer.producer.Goals as goal

pub returns-in-Ok : goal.returns-in-Ok
returns-in-Ok c =
    let home = c.args.home.now in
    sym (producer_text home.sections.now c.args.base home.unit.wide c.args.root.now _ (sym c.value.ensures ∙ ap (option_map seen) c.in_ok-value.was) _ c.in-Ok.ensures)

pub returns-in-Err : goal.returns-in-Err
returns-in-Err c =
    let home = c.args.home.now in
    sym (producer_text home.sections.now c.args.base home.unit.wide c.args.root.now _ (sym c.value.ensures ∙ ap (option_map seen) c.in_ok-value.was) _ c.in-Err.ensures)
