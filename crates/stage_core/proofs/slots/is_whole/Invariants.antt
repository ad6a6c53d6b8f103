use Rattle.std.proofs.Common.{◌≡◌, drop}
use Rattle.std.specs.Prelude.{is_none}
use Rattle.std.specs.List.{list_any}
use Rattle.stage_core.specs.Slots.{slots_seen}
use Rattle.stage_core.proofs.slots.is_whole.Given as goal

abbrev pub invariant-loop-slot : goal.invariant-loop-slot
invariant-loop-slot l = list_any is_none (slots_seen (drop l.slot-index l.slots)) ≡ list_any is_none (slots_seen l.slots)
