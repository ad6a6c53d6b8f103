use Rattle.std.proofs.Common.{◌++◌}
use Rattle.index_model.specs.NameIndex.{uleb_bytes}
use Rattle.debugnames_write.proofs.LebLaws.{LeftOf}
use Rattle.debugnames_write.proofs.numbers.push_uleb.Given as goal

abbrev pub invariant-loop-rest : goal.invariant-loop-rest
invariant-loop-rest l = LeftOf (l.initial.out.items ++ uleb_bytes l.number) l.out.items l.rest

abbrev pub decreases-loop-rest : goal.decreases-loop-rest
decreases-loop-rest l = l.rest
