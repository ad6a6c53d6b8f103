use Rattle.std.proofs.Common.{rules, sym, ap, ◌∙◌}
use Rattle.stage_lock.proofs.Passes.{join_allowed}
use Rattle.stage_lock.proofs.Steps.{settle_allowed}
use Rattle.stage_lock.proofs.Turns.{idle_turn, not_back}
use Rattle.stage_lock.proofs.lock.StageLock.join.Goals as goal

pub join_seat-requires : goal.join_seat-requires
join_seat-requires g c =
    let idle = idle_turn _ (ap (λ s. s.holding) c.other.view_is ∙ c.requires.idle) in
    (ap (λ s. s.id) c.pass.view_is ∙ (c.requires.own.0 ∙ sym (ap (λ s. s.id) c.self.view_is)), ap (λ s. s.id) c.other.view_is ∙ (c.requires.other.0 ∙ sym (ap (λ s. s.id) c.self.view_is)), c.other.invariant.2 idle, search rules, join_allowed g.V.Staged.stage_of g.V.Staged.subject g.V.Staged.fits _ _ _ _ _ c.pass.invariant.0 c.other.invariant.0 idle (not_back _ (λ n. (c.pass.invariant.3 n).0)))

pub load-requires : goal.load-requires
load-requires g c = (search rules, search rules, settle_allowed g.V.Staged.stage_of g.V.Staged.subject g.V.Staged.fits _ _ _ _ (search rules))
