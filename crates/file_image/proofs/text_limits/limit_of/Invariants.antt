use Rattle.std.proofs.Common.{◌≤◌, ◌-◌, length}
use Rattle.file_image.specs.TextLimits.{AreSound}
use Rattle.file_image.proofs.text_limits.limit_of.Given as goal

-- each string so far is sound
abbrev pub invariant-loop-zero : goal.invariant-loop-zero
invariant-loop-zero l = record {
  within : l.limit ≤ length l.bytes;
  sound : AreSound l.bytes l.limit;
}

abbrev pub decreases-loop-zero : goal.decreases-loop-zero
decreases-loop-zero l = length l.bytes - l.limit
