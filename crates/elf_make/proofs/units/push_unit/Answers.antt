use Rattle.std.proofs.Common.{◌≡◌, ◌%◌, arith}
use Rattle.elf_make.proofs.Whole.{generated_even, generated_odd}
use Rattle.elf_make.proofs.units.push_unit.Goals as goal

pub returns-then-index-eq0 : goal.returns-then-index-eq0
returns-then-index-eq0 c = rw (generated_even c.args.seed c.args.units c.args.index c.requires.index c.if-index-eq0.true, ← c.low_address-low.ensures.low) c.push_c_unit.ensures

pub returns-else-index-eq0 : goal.returns-else-index-eq0
returns-else-index-eq0 c =
    let odd : c.args.index % 2 ≡ 1 = omega (arith, c.if-index-eq0.false) in
    rw (generated_odd c.args.seed c.args.units c.args.index c.requires.index odd, ← c.low_address-low.ensures.low, ← c.declaration_for.ensures) c.push_cpp_unit.ensures
