use Rattle.stage_core.specs.Outputs.{summary_seen}
use Rattle.drill_command.proofs.DrillLaws.{totals_are}
use Rattle.drill_command.proofs.drill.totals.Goals as goal

pub returns : goal.returns
returns c =
    rw (c.units.ensures.value, c.entries.ensures.all, c.distinct.ensures, c.main_word.ensures)
    (totals_are c.args.image.now (summary_seen c.args.summary.now) c.args.table.now c.requires c.units.ensures.of_file c.args.gdb.now c.args.names.now c.args.strings.now)
