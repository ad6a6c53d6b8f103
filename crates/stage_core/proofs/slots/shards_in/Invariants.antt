use Rattle.std.proofs.Common.{◌≡◌, ◌++◌, map, filter_map, drop}
use Rattle.std.specs.Arc.{arc_value}
use Rattle.stage_core.specs.Inputs.{shard_in}
use Rattle.stage_core.specs.Slots.{made_of_slots}
use Rattle.stage_core.proofs.slots.shards_in.Given as goal

abbrev pub invariant-loop-slot : goal.invariant-loop-slot
invariant-loop-slot l = map arc_value l.shards.items ++ filter_map shard_in (made_of_slots (drop l.slot-index l.slots)) ≡ filter_map shard_in (made_of_slots l.slots)
