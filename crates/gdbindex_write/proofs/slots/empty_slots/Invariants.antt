use Rattle.std.proofs.Common.{◌≡◌, None, replicate}
use Rattle.gdbindex_write.proofs.slots.empty_slots.Given as goal

abbrev pub invariant-loop-filled : goal.invariant-loop-filled
invariant-loop-filled l = l.slots.items ≡ replicate l.filled None
