use Rattle.std.proofs.Common.{◌≡◌, ◌≢◌, ℕ, Some, None, refl, sym, ap, ◌∙◌, subst}
use Rattle.std.specs.Prelude.{IsSome, IfSome, MatchOption}
use lib.ListN.{get_elem?}
use mathlib.Core.Option.{some-injective}
use Rattle.index_model.specs.Stages.{IsReachable}
use Rattle.stage_lock.specs.Facts.{turn, IsHome}
use Rattle.stage_lock.specs.Shares.{IsWhole}
use Rattle.stage_lock.specs.Closing.{IsHeldByAnother}
use Rattle.stage_lock.proofs.Closes.{word_found, value_is, held_by_another, closes_with, free_for_whole}
use Rattle.stage_lock.proofs.lock.StageLock.close.Goals as goal

pub returns-then-turn-eq-FREE-clause-reach : goal.returns-then-turn-eq-FREE-clause-reach
returns-then-turn-eq-FREE-clause-reach g c =
    let f = c.close_with-closed.ensures.values.2 in
    let seat = c.pass.inside.seat in
    let free = word_found _ _ f.0.words c.word-turn.ensures f.2 ∙ c.if-turn-eq-FREE.true in
    let y = value_is g.V.Staged.stage_of g.V.Staged.subject g.V.Staged.fits (g.V.Staged.subject c.self.inside.table.shared.key.value) f.0 f.1.0 seat.id seat.me.0 (f.1.1, c.pass.invariant.0) free in
    let is : c.take-value.result ≡ Some y.0 = some-injective _ _ (sym c.take-value.ensures.value ∙ f.4 0 (Some y.0) (ap (λ hs. get_elem? hs 0) y.1)) in
    subst (λ o. IfSome o (λ v. IsReachable c.args.pass.floor (g.V.Staged.stage_of v))) (sym is) (subst (λ (k : ℕ). IsReachable k (g.V.Staged.stage_of y.0)) (ap (λ s. s.floor) c.pass.view_is) y.3)

pub returns-then-turn-eq-FREE-clause-subject : goal.returns-then-turn-eq-FREE-clause-subject
returns-then-turn-eq-FREE-clause-subject g c =
    let f = c.close_with-closed.ensures.values.2 in
    let seat = c.pass.inside.seat in
    let free = word_found _ _ f.0.words c.word-turn.ensures f.2 ∙ c.if-turn-eq-FREE.true in
    let y = value_is g.V.Staged.stage_of g.V.Staged.subject g.V.Staged.fits (g.V.Staged.subject c.self.inside.table.shared.key.value) f.0 f.1.0 seat.id seat.me.0 (f.1.1, c.pass.invariant.0) free in
    let is : c.take-value.result ≡ Some y.0 = some-injective _ _ (sym c.take-value.ensures.value ∙ f.4 0 (Some y.0) (ap (λ hs. get_elem? hs 0) y.1)) in
    subst (λ o. IfSome o (λ v. g.V.Staged.subject v ≡ c.args.self.subject)) (sym is) (y.2 ∙ ap (λ l. l.subject) c.self.view_is)

pub returns-then-turn-eq-FREE-clause-last : goal.returns-then-turn-eq-FREE-clause-last
returns-then-turn-eq-FREE-clause-last g c =
    let f = c.close_with-closed.ensures.values.2 in
    let seat = c.pass.inside.seat in
    let free = word_found _ _ f.0.words c.word-turn.ensures f.2 ∙ c.if-turn-eq-FREE.true in
    let about = g.V.Staged.subject c.self.inside.table.shared.key.value in
    let y = value_is g.V.Staged.stage_of g.V.Staged.subject g.V.Staged.fits about f.0 f.1.0 seat.id seat.me.0 (f.1.1, c.pass.invariant.0) free in
    let is : c.take-value.result ≡ Some y.0 = some-injective _ _ (sym c.take-value.ensures.value ∙ f.4 0 (Some y.0) (ap (λ hs. get_elem? hs 0) y.1)) in
    closes_with g.V.Staged.stage_of g.V.Staged.subject g.V.Staged.fits about f.0 f.1.0 seat.table_id seat.id seat.me.0 c.args.self c.args.pass c.take-value.result (ap (λ z. record { id = z; subject = about }) (ap (λ s. s.id) c.pass.view_is ∙ c.requires.own.0 ∙ sym (ap (λ l. l.id) c.self.view_is)) ∙ c.self.view_is) (f.1.1, c.pass.invariant.0) c.pass.view_is
    (subst (λ o. MatchOption o ((turn f.0 ≡ 1) × IsHeldByAnother c.args.self c.args.pass f.0) (λ v. (turn f.0 ≡ 0) × IsHome v f.0)) (sym is) (free, y.1))

pub returns-else-turn-eq-FREE-clause-last : goal.returns-else-turn-eq-FREE-clause-last
returns-else-turn-eq-FREE-clause-last g c =
    let f = c.close_with-closed.ensures.values.2 in
    let seat = c.pass.inside.seat in
    let found = word_found _ _ f.0.words c.word-turn.ensures f.2 in
    let busy : turn f.0 ≢ 0 = λ e. c.if-turn-eq-FREE.false (sym found ∙ e) in
    let about = g.V.Staged.subject c.self.inside.table.shared.key.value in
    closes_with g.V.Staged.stage_of g.V.Staged.subject g.V.Staged.fits about f.0 f.1.0 seat.table_id seat.id seat.me.0 c.args.self c.args.pass None (ap (λ z. record { id = z; subject = about }) (ap (λ s. s.id) c.pass.view_is ∙ c.requires.own.0 ∙ sym (ap (λ l. l.id) c.self.view_is)) ∙ c.self.view_is) (f.1.1, c.pass.invariant.0) c.pass.view_is
    (held_by_another g.V.Staged.stage_of g.V.Staged.subject g.V.Staged.fits about f.0 f.1.0 c.args.self c.args.pass c.requires.idle busy)

pub returns-then-turn-eq-FREE-clause-whole : goal.returns-then-turn-eq-FREE-clause-whole
returns-then-turn-eq-FREE-clause-whole g c =
    let f = c.close_with-closed.ensures.values.2 in
    let seat = c.pass.inside.seat in
    let free = word_found _ _ f.0.words c.word-turn.ensures f.2 ∙ c.if-turn-eq-FREE.true in
    let y = value_is g.V.Staged.stage_of g.V.Staged.subject g.V.Staged.fits (g.V.Staged.subject c.self.inside.table.shared.key.value) f.0 f.1.0 seat.id seat.me.0 (f.1.1, c.pass.invariant.0) free in
    let is : c.take-value.result ≡ Some y.0 = some-injective _ _ (sym c.take-value.ensures.value ∙ f.4 0 (Some y.0) (ap (λ hs. get_elem? hs 0) y.1)) in
    λ _. subst IsSome (sym is) refl

pub returns-else-turn-eq-FREE-clause-whole : goal.returns-else-turn-eq-FREE-clause-whole
returns-else-turn-eq-FREE-clause-whole g c =
    let f = c.close_with-closed.ensures.values.2 in
    let seat = c.pass.inside.seat in
    let found = word_found _ _ f.0.words c.word-turn.ensures f.2 in
    λ whole. absurd (c.if-turn-eq-FREE.false (sym found ∙ free_for_whole g.V.Staged.stage_of g.V.Staged.subject g.V.Staged.fits (g.V.Staged.subject c.self.inside.table.shared.key.value) f.0 f.1.0 seat.id seat.me.0 (f.1.1, c.pass.invariant.0) (subst IsWhole (sym (ap (λ p. p.share) c.pass.view_is)) whole) (ap (λ p. p.holding) c.pass.view_is ∙ c.requires.idle)))
