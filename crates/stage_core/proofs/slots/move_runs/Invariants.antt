use Rattle.std.proofs.Common.{◌≡◌, ◌≤◌, ◌+◌, ◌++◌, filter_map, drop, length, vec_len, vec_capacity}
use Rattle.stage_core.specs.Inputs.{run_in}
use Rattle.stage_core.specs.Slots.{made_of_slots}
use Rattle.stage_core.proofs.slots.move_runs.Given as goal

abbrev pub invariant-loop-slot : goal.invariant-loop-slot
invariant-loop-slot l = record {
  room : vec_len l.runs + length l.slots ≤ vec_capacity l.runs + l.slot-index;
  moved : l.runs.items ++ filter_map run_in (made_of_slots (drop l.slot-index l.slots)) ≡ l.initial.runs.items ++ filter_map run_in (made_of_slots l.initial.slots);
}
