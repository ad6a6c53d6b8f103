use Rattle.std.proofs.Common.{◌≡◌, replicate, None}
use Rattle.stage_core.specs.Slots.{slots_seen}
use Rattle.stage_core.proofs.slots.vacant.Given as goal

abbrev pub invariant-loop-job : goal.invariant-loop-job
invariant-loop-job l = record {
  vacant : l.slots.items ≡ replicate l._job None;
  seen : slots_seen l.slots.items ≡ replicate l._job None;
}
