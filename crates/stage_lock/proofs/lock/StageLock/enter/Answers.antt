use Rattle.std.proofs.Common.{rules, ◌≡◌, [], ◌∷◌, Some, sym, ap, ◌∙◌, subst}
use Rattle.std.specs.Prelude.{IsSome}
use Rattle.atomic_table.specs.Table.{rest}
use Rattle.stage_lock.proofs.TurnSteps.{win_allowed, note_allowed}
use Rattle.stage_lock.proofs.Turns.{idle_turn}
use Rattle.stage_lock.proofs.lock.StageLock.enter.Goals as goal

pub compare_exchange-requires : goal.compare_exchange-requires
compare_exchange-requires g c =
    let i = c.loop.invariant in
    (search rules, search rules, win_allowed g.V.Staged.stage_of g.V.Staged.subject g.V.Staged.fits _ _ _ _ (subst IsSome (sym (ap (λ m. m.0.about) i.2)) c.pass.invariant.0) (ap (λ m. m.0.turn) i.2 ∙ idle_turn _ (ap (λ s. s.holding) c.pass.view_is ∙ c.requires.idle)))

pub load-requires : goal.load-requires
load-requires g c =
    let won = c.compare_exchange.ensures.2.0 c.if-compare_exchange-eq-FREE.true in
    let i = c.loop.invariant in (
      search rules,
      search rules,
      note_allowed g.V.Staged.stage_of g.V.Staged.subject g.V.Staged.fits _ _ _ _ (subst IsSome (sym (ap (λ m. m.0.about) won ∙ ap (λ m. m.0.about) i.2)) c.pass.invariant.0) (ap (λ m. m.0.turn) won)
          (ap (λ m. m.1) won ∙ (ap (λ m. m.1) i.2 ∙ c.pass.invariant.2 (idle_turn _ (ap (λ s. s.holding) c.pass.view_is ∙ c.requires.idle)))),
    )

pub exchange-requires : goal.exchange-requires
exchange-requires g c =
    let t = c.load.ensures.2 in
    let carried : c.load.new.seat.me.1 ≡ (0, Some t.0) ∷ [] = ap (λ m. m.1) t.1 in
    (search rules, (Some t.0, carried ∙ ap (λ cs. (0, Some t.0) ∷ rest cs) (sym carried)))
