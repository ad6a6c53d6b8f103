use Rattle.debugnames_write.proofs.LebLaws.{size_more, size_end}
use Rattle.debugnames_write.proofs.numbers.uleb_size.Goals as goal

pub loop-rest-preserved : goal.loop-rest-preserved
loop-rest-preserved c = size_more _ _ _ c.loop-rest.invariant c.loop-rest-test.true

pub returns-clause-size : goal.returns-clause-size
returns-clause-size c = size_end _ _ _ c.loop-rest.invariant c.loop-rest-test.false
