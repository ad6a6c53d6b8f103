use Rattle.std.proofs.Common.{rules, sym, ap, ◌∙◌}
use Rattle.stage_lock.proofs.Passes.{split_allowed}
use Rattle.stage_lock.proofs.lock.StageLock.split.Goals as goal

pub split_seat-seat-requires : goal.split_seat-seat-requires
split_seat-seat-requires g c = (ap (λ s. s.id) c.pass.view_is ∙ (c.requires.own.0 ∙ sym (ap (λ s. s.id) c.self.view_is)), search rules, split_allowed g.V.Staged.stage_of g.V.Staged.subject g.V.Staged.fits _ _ _)
