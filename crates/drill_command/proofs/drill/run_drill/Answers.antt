use Rattle.std.proofs.Common.{ap, ◌∙◌, arith}
use Rattle.std.specs.Prelude.{length}
use Rattle.elf_make.proofs.Bounds.{generated_small}
use Rattle.drill_command.proofs.drill.run_drill.Goals as goal

pub measure-requires-clause-small : goal.measure-requires-clause-small
measure-requires-clause-small g c κs within =
    let small = generated_small c.args.seed c.args.units c.requires.one_unit c.requires.few_units in
    omega (arith, small, ap length (c.deref.ensures.value ∙ c.in-Ok.ensures))
