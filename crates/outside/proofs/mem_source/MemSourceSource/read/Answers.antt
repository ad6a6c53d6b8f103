use Rattle.std.proofs.Common.{sym, ap}
use Rattle.outside.proofs.TakenLaws.{front_taken}
use Rattle.outside.proofs.mem_source.MemSourceSource.read.Goals as goal

pub returns-clause-taken : goal.returns-clause-taken
returns-clause-taken c =
    front_taken _ _ _ _ _ _ (ap (λ s. s.left) (sym c.self.view_is)) c.deref-3.ensures.value c.copy_front-count.ensures.front
