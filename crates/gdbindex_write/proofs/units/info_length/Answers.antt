use Rattle.std.proofs.Common.{ap, ◌∙◌, arith}
use Rattle.std.specs.Prelude.{sum_by}
use Rattle.std.proofs.lemmas.List.{take_all}
use Rattle.gdbindex_write.specs.Units.{info_part}
use Rattle.gdbindex_write.proofs.UnitLaws.{info_fits, info_is, no_unit}
use Rattle.gdbindex_write.proofs.units.info_length.Goals as goal

pub overflow_add-total : goal.overflow_add-total
overflow_add-total c = omega (arith, info_fits c.args.units.now c.loop-unit.unit-index no_unit c.loop-unit-test.true, c.info_part-total.ensures, c.loop-unit.invariant, c.requires)

pub returns : goal.returns
returns c = c.loop-unit.invariant ∙ ap (sum_by info_part) (take_all c.loop-unit.unit-index c.args.units.now (omega arith)) ∙ info_is c.args.units.now
