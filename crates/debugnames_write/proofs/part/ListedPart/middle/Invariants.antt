use Rattle.std.proofs.Common.{◌≡◌, take}
use Rattle.std.specs.Prelude.{sum_by}
use Rattle.debugnames_write.specs.Counts.{count_of}
use Rattle.debugnames_write.proofs.part.ListedPart.middle.Given as goal

abbrev pub invariant-loop-index : goal.invariant-loop-index
invariant-loop-index l = l.passed ≡ sum_by count_of (take l.index l.self.names.now)
