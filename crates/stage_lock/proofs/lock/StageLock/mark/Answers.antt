use Rattle.std.proofs.Common.{rules, sym, ap, ◌∙◌}
use Rattle.stage_lock.proofs.Steps.{mark_allowed}
use Rattle.stage_lock.proofs.lock.StageLock.mark.Goals as goal

pub load-requires : goal.load-requires
load-requires g c = (ap (λ s. s.id) c.pass.view_is ∙ (c.requires.own.0 ∙ sym (ap (λ s. s.id) c.self.view_is)), search rules, mark_allowed g.V.Staged.stage_of g.V.Staged.subject g.V.Staged.fits _ _ _ _ c.pass.invariant.0)
