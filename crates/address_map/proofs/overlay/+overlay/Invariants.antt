use Rattle.std.proofs.Common.{length}
use Rattle.address_map.proofs.overlay.+overlay.Given as goal

abbrev pub decreases-overlay : goal.decreases-overlay
decreases-overlay l = length l.ranges.now
