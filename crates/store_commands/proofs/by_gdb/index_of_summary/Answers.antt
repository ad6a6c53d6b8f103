use Rattle.std.proofs.Common.{arith, ap}
use Rattle.std.specs.Prelude.{length}
use Rattle.stage_core.specs.Outputs.{summary_seen}
use Rattle.store_commands.proofs.ByGdbLaws.{brings, has_program, writable}
use Rattle.store_commands.proofs.by_gdb.index_of_summary.Goals as goal

pub listed_index-requires-clause-program : goal.listed_index-requires-clause-program
listed_index-requires-clause-program g c κs within = has_program c.args.image.now (summary_seen c.args.summary.now) c.requires

pub listed_index-requires-clause-units : goal.listed_index-requires-clause-units
listed_index-requires-clause-units g c κs within =
    let units = c.units-units.ensures in
    (writable c.args.image.now (summary_seen c.args.summary.now) c.requires units.of_file (omega (arith, units.few, ap length units.value)) (omega (arith, c.sections_are_small.ensures.info)) (omega (arith, c.sections_are_small.ensures.types))).units_are

pub listed_index-requires-clause-pieces : goal.listed_index-requires-clause-pieces
listed_index-requires-clause-pieces g c κs within =
    let units = c.units-units.ensures in
    (writable c.args.image.now (summary_seen c.args.summary.now) c.requires units.of_file (omega (arith, units.few, ap length units.value)) (omega (arith, c.sections_are_small.ensures.info)) (omega (arith, c.sections_are_small.ensures.types))).pieces_are

pub returns : goal.returns
returns g c = brings c.args.image.now (summary_seen c.args.summary.now) c.requires c.units-units.ensures.of_file c.args.version c.listed_index.result c.kept.result c.kept.ensures c.listed_index.ensures.bytes c.listed_index.ensures.fits c.listed_index.ensures.too_large
