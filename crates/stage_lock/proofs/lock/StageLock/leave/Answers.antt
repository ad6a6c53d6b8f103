use Rattle.std.proofs.Common.{rules, ◌≡◌, ◌∷◌, Some, sym, ap, ◌∙◌, subst}
use Rattle.std.specs.Prelude.{IsSome, IfSome}
use Rattle.atomic_table.specs.Table.{rest}
use Rattle.index_model.specs.Stages.{IsReachable}
use Rattle.stage_lock.proofs.TurnSteps.{publish_allowed, unlock_allowed, if_some}
use Rattle.stage_lock.proofs.Turns.{holding_turn}
use Rattle.stage_lock.proofs.lock.StageLock.leave.Goals as goal

pub store-requires : goal.store-requires
store-requires g c =
    let e = c.exchange-was.ensures.3 in
    let m = c.pass.inside.seat.me in
    let h = c.pass.invariant.3 (holding_turn _ (ap (λ s. s.holding) c.pass.view_is ∙ c.requires.holding)) in
    let follows = subst (λ o. IfSome o (λ x. g.V.Staged.follows x c.args.value)) (sym (ap (λ s. s.value_out) c.pass.view_is)) c.requires.follows in
    let on = if_some (λ x. g.V.Staged.follows x c.args.value) (λ x. (g.V.Staged.subject c.args.value ≡ g.V.Staged.subject x) × IsReachable (g.V.Staged.stage_of x) (g.V.Staged.stage_of c.args.value)) m.0.value_out (λ x f. (g.met.V.Staged.stays x c.args.value f, g.met.V.Staged.goes_on x c.args.value f)) follows in
    (search rules, search rules, publish_allowed g.V.Staged.stage_of g.V.Staged.subject g.V.Staged.fits _ _ _ _ m.0.value_out c.args.value _ (subst IsSome (sym (ap (λ z. z.0.about) e)) c.pass.invariant.0) (ap (λ z. z.0.turn) e ∙ h.0) (ap (λ z. z.0.value_out) e) h.2 (ap (λ z. z.1) e ∙ ap (λ cs. (0, Some c.args.value) ∷ rest cs) h.1) (search rules) (search rules) (search rules) on)

pub store-requires-2 : goal.store-requires-2
store-requires-2 g c = (search rules, search rules, unlock_allowed g.V.Staged.stage_of g.V.Staged.subject g.V.Staged.fits _ _ _ _ (search rules) (search rules))
