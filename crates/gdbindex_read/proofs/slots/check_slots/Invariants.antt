use Rattle.std.proofs.Common.{◌≡◌}
use Rattle.index_model.specs.GdbIndexRead.{slot_at}
use Rattle.gdbindex_read.specs.Areas.{areas_seen, item}
use Rattle.gdbindex_read.specs.Runs.{AreKnown}
use Rattle.gdbindex_read.proofs.Loops.{fault_from}
use Rattle.gdbindex_read.proofs.slots.check_slots.Given as goal

abbrev pub invariant-loop-number : goal.invariant-loop-number
invariant-loop-number l = record {
  -- the first fault is that of the slots that are left
  left : fault_from (slot_at (areas_seen l.areas)) (item 8 (areas_seen l.areas).table) l.number l.count ≡ fault_from (slot_at (areas_seen l.areas)) (item 8 (areas_seen l.areas).table) 0 l.count;
  known : AreKnown (areas_seen l.areas).pool.rest l.limits.units l.vectors;
}
