use Rattle.std.proofs.Common.{length}
use Rattle.index_model.specs.NameIndex.{uleb_bytes}
use Rattle.debugnames_write.proofs.LebLaws.{SizeLeft}
use Rattle.debugnames_write.proofs.numbers.uleb_size.Given as goal

abbrev pub invariant-loop-rest : goal.invariant-loop-rest
invariant-loop-rest l = SizeLeft (length (uleb_bytes l.number)) l.size l.rest

abbrev pub decreases-loop-rest : goal.decreases-loop-rest
decreases-loop-rest l = l.rest
