use Rattle.debugnames_write.proofs.LebLaws.{leb_more, leb_end}
use Rattle.debugnames_write.proofs.numbers.push_uleb.Goals as goal

pub loop-rest-preserved : goal.loop-rest-preserved
loop-rest-preserved c = rw c.in_ok-push.ensures.items (leb_more _ _ _ c.loop-rest.invariant c.loop-rest-test.true)

pub returns : goal.returns
returns c = rw c.in_ok-push-2.ensures.items (leb_end _ _ _ c.loop-rest.invariant c.loop-rest-test.false)
