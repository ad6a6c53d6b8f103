use Rattle.std.proofs.Common.{◌<◌, length}
use Rattle.gdbindex_write.proofs.FrontLaws.{Walked}
use Rattle.gdbindex_write.proofs.slots.free_slot.Given as goal

abbrev pub invariant-loop-tried : goal.invariant-loop-tried
invariant-loop-tried l = record {
  within : l.slot < length l.slots;
  walked : Walked l.slots l.begin l.slot l.tried;
}
