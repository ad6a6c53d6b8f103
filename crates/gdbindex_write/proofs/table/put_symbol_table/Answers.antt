use Rattle.std.proofs.Common.{None}
use Rattle.common_laws.proofs.Appended.{no_part, more_parts, all_parts}
use Rattle.gdbindex_write.specs.Places.{numbered_bytes}
use Rattle.gdbindex_write.proofs.table.put_symbol_table.Goals as goal

pub loop-slot-init : goal.loop-slot-init
loop-slot-init c = no_part (numbered_bytes c.args.places.now) c.args.slots.now c.args.out.now.items

pub loop-slot-preserved : goal.loop-slot-preserved
loop-slot-preserved c = more_parts (numbered_bytes c.args.places.now) c.args.slots.now c.loop-slot.slot-index None c.args.out.now.items c.loop-slot-test.true c.loop-slot.invariant c.in_ok-put_slot.ensures

pub returns : goal.returns
returns c = all_parts (numbered_bytes c.args.places.now) c.args.slots.now c.loop-slot.slot-index c.args.out.now.items c.loop-slot-test.false c.loop-slot.invariant
