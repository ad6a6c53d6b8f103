use Rattle.std.proofs.Common.{◌∙◌}
use Rattle.stage_core.specs.Inputs.{shard_in}
use Rattle.stage_core.proofs.SlotLaws.{shared_more}
use Rattle.stage_core.proofs.slots.shards_in.Goals as goal

pub loop-slot-preserved : goal.loop-slot-preserved
loop-slot-preserved c =
    shared_more shard_in c.args.slots.now c.loop-slot.slot-index c.slot-item.result _ _ _ c.loop-slot-test.true c.slot-item.is c.shard_of.ensures c.in_ok-push_shared.ensures ∙ c.loop-slot.invariant
