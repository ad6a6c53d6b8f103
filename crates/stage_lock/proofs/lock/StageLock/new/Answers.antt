use Rattle.std.proofs.Common.{rules}
use Rattle.stage_lock.proofs.Starts.{starts}
use Rattle.stage_lock.proofs.lock.StageLock.new.Goals as goal

pub new-requires : goal.new-requires
new-requires g c = starts g.V.Staged.stage_of g.V.Staged.subject g.V.Staged.fits c.args.value _ _ _ (search rules) (search rules) (search rules) (search rules) (search rules)
