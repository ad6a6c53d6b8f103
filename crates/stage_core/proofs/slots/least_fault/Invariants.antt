use Rattle.std.proofs.Common.{◌≡◌, drop}
use Rattle.index_model.specs.MachineEvents.{least_fault}
use Rattle.stage_core.specs.Slots.{slots_seen}
use Rattle.stage_core.proofs.slots.least_fault.Given as goal

abbrev pub invariant-loop-slot : goal.invariant-loop-slot
invariant-loop-slot l = least_fault (slots_seen (drop l.slot-index l.slots)) ≡ least_fault (slots_seen l.slots)
