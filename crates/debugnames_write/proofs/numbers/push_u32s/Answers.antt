use Rattle.common_laws.proofs.Appended.{no_part, more_parts, all_parts}
use Rattle.index_model.specs.Layout.{u32_bytes}
use Rattle.debugnames_write.proofs.numbers.push_u32s.Goals as goal

pub loop-number-init : goal.loop-number-init
loop-number-init c = no_part u32_bytes c.args.numbers.now c.args.out.now.items

pub loop-number-preserved : goal.loop-number-preserved
loop-number-preserved c = more_parts u32_bytes c.args.numbers.now c.loop-number.number-index 0 c.args.out.now.items c.loop-number-test.true c.loop-number.invariant c.in_ok-push_u32.ensures

pub returns : goal.returns
returns c = all_parts u32_bytes c.args.numbers.now c.loop-number.number-index c.args.out.now.items c.loop-number-test.false c.loop-number.invariant
