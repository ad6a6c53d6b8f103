use Rattle.std.proofs.Common.{length}
use Rattle.std.specs.Prelude.{flat_map}
use Rattle.common_laws.proofs.Appended.{two_parts, no_part, more_parts, all_parts}
use Rattle.index_model.specs.Layout.{u32_bytes}
use Rattle.gdbindex_write.proofs.vectors.put_vector.Goals as goal

pub loop-element-init : goal.loop-element-init
loop-element-init c = no_part u32_bytes c.args.elements.now c.put_u32.new.out.items

pub loop-element-preserved : goal.loop-element-preserved
loop-element-preserved c = more_parts u32_bytes c.args.elements.now c.loop-element.element-index 0 c.put_u32.new.out.items c.loop-element-test.true c.loop-element.invariant c.in_ok-put_u32-2.ensures

pub returns : goal.returns
returns c = two_parts c.args.out.now.items (u32_bytes (length c.args.elements.now)) (flat_map u32_bytes c.args.elements.now) c.in_ok-put_u32.ensures (all_parts u32_bytes c.args.elements.now c.loop-element.element-index c.put_u32.new.out.items c.loop-element-test.false c.loop-element.invariant)
