-- The rule has the facts.
use Rattle.std.proofs.Common.{◌≡◌, ◌≢◌, ℕ, ◌≤◌, All, Some, None, sym, refl, ap, ◌∙◌, subst, ⊎_elim, inl, inr}
use Rattle.std.specs.Prelude.{IsSome, IfSome, ◌↔◌, ◌⊎◌}
use mathlib.Core.Logic.{dite}
use mathlib.Core.Option.{some, some-injective, some-ne-none}
use native.Mathlib.Decide.{ℕ_discrete}
use lib.ListN.{get_elem?}
use Rattle.index_model.specs.Stages.{IsReachable}
use Rattle.stage_lock.specs.declared.known.Known.{Known}
use Rattle.stage_lock.specs.declared.known.Turn.TheVariants.{Without, Out}
use Rattle.stage_lock.specs.Rule.{word_of, Lives, Holds}
use Rattle.stage_lock.specs.Facts.{LockState, turn, IsAway, IsPass, HasTurn, IsTaken, IsPublished, Facts}
use Rattle.stage_lock.proofs.Seats.{lives, stage_at, turn_at}
use Rattle.stage_lock.specs.Shares.{IsWhole}
use Rattle.stage_lock.proofs.Shares.{none_beside}
use Rattle.stage_lock.proofs.Turns.{dec_without, dec_out, free, taken, not_taken}

module _ {V X : Type 0} (stage_of : V → ℕ) (subject : V → X) (fits : X → ℕ → Type 0) (about : X) where
  abbrev State : Type 0
  State = LockState V X

  abbrev R : State → Type 0
  R = Holds stage_of subject fits about

  abbrev Live : (s : State) → R s → ℕ → Known V X → Type 0
  Live s r seat v = (v.about ≡ Some about) × Lives stage_of subject fits about r.turn r.holder r.now seat v

  -- a pass has its facts
  pub live : (s : State) (r : R s) (seat : ℕ) (v : Known V X) → IsPass s seat v → Live s r seat v
  live s r seat v p = lives stage_of subject fits about r.turn r.holder r.now seat v p.1 (r.each seat v p.0)

  -- the holder isn't spent
  holder_lives : (s : State) (r : R s) (v : Known V X) → get_elem? s.views r.holder ≡ some v → v.turn ≢ Without → IsSome v.about
  holder_lives s r v at busy = ⊎_elim
      (λ (t : (v.about ≡ None) × (v.turn ≡ Without)). absurd (busy t.1))
      (λ (t : Live s r r.holder v). subst IsSome (sym t.0) refl)
      (r.each r.holder v at)

  -- where the turn is taken, its holder has it
  pub holder_of : (s : State) (r : R s) → r.turn ≢ Without → (v : Known V X) × IsPass s r.holder v × HasTurn v × (v.turn ≡ r.turn)
  holder_of s r busy =
      let h = r.held busy in
      let own : h.0.turn ≢ Without = λ e. busy (sym h.2 ∙ e) in
      (h.0, (h.1, holder_lives s r h.0 h.1 own), own, h.2)

  published : (s : State) (r : R s) → r.turn ≢ Out → IsPublished stage_of subject fits about s
  published s r home = let h = r.home home in (h.0, h.1, h.2 ∙ sym (stage_at stage_of subject fits about s r), h.3)

  -- a pass with the turn is as far as the rule says
  as_far : (s : State) (r : R s) (seat : ℕ) (v : Known V X) → IsPass s seat v → HasTurn v → v.turn ≡ r.turn
  as_far s r seat v p busy = ((live s r seat v p).1.own busy).1

  bit_of : (s : State) (r : R s) → (turn s ≡ 0) ⊎ (turn s ≡ 1)
  bit_of s r = dite (dec_without r.turn)
      (λ e. inl (turn_at stage_of subject fits about s r ∙ ap word_of e))
      (λ busy. inr (turn_at stage_of subject fits about s r ∙ taken r.turn busy))

  taken_of : (s : State) (r : R s) → (turn s ≡ 1) ↔ IsTaken s
  taken_of s r = (
    λ e. let h = holder_of s r (not_taken r.turn (sym (turn_at stage_of subject fits about s r) ∙ e)) in (r.holder, h.0, h.1, h.2),
    λ t. turn_at stage_of subject fits about s r ∙ taken r.turn (λ e. t.3 (as_far s r t.0 t.1 t.2 t.3 ∙ e)),
  )

  away_of : (s : State) (r : R s) → IsAway s ↔ ((seat : ℕ) × (v : Known V X) × IsPass s seat v × (v.turn ≡ Out))
  away_of s r = (
    λ away. dite (dec_out r.turn)
        (λ e. let h = holder_of s r (λ z. let q = sym e ∙ z in cc) in (r.holder, h.0, h.1, h.3 ∙ e))
        (λ home. let h = r.home home in absurd (some-ne-none (Some h.0) (some-injective _ _ (ap (λ hs. get_elem? hs 0) (sym h.1 ∙ away))))),
    λ t. r.away (sym (as_far s r t.0 t.1 t.2 (λ z. let q = sym t.3 ∙ z in cc)) ∙ t.3),
  )

  -- a pass with the whole share is the only one
  pub alone_of : (s : State) (r : R s) (i j : ℕ) (u v : Known V X) → IsPass s i u → IsWhole u.share → IsPass s j v → i ≡ j
  alone_of s r i j u v p whole q = dite (ℕ_discrete i j) (λ e. e) (λ apart. absurd (none_beside r.scale s.views i j u v r.fine r.whole apart p.0 whole q.0 (live s r j v q).1.has_share))

  -- the facts hold of each state that has the rule
  pub facts_hold : (s : State) → R s → Facts stage_of subject fits about s
  facts_hold s r =
      let is = stage_at stage_of subject fits about s r in record {
        bit = bit_of s r;
        taken = taken_of s r;
        one = λ i j u v p busy q busy'. ((live s r i u p).1.own busy).0 ∙ sym ((live s r j v q).1.own busy').0;
        away = away_of s r;
        free = λ e. published s r (λ o. let f = free r.turn (sym (turn_at stage_of subject fits about s r) ∙ e) in let q = sym f ∙ o in cc);
        floors = λ seat v p. subst (IsReachable v.floor) (sym is) (live s r seat v p).1.reaches;
        old_floors = λ seat v p. subst (λ n. All (λ floor. IsReachable floor n) v.old_floors) (sym is) (live s r seat v p).1.olds;
        won = λ seat v p e. published s r (λ o. let f = as_far s r seat v p (λ z. let q = sym e ∙ z in cc) in let q = sym e ∙ (f ∙ o) in cc);
        out = λ seat v p e. let o = (live s r seat v p).1.out e in (o.0, o.1, o.2 ∙ sym is);
        back = λ seat v p e.
            let b = (live s r seat v p).1.back e in (
              published s r (λ o. let f = as_far s r seat v p (λ z. let q = sym e ∙ z in cc) in let q = sym e ∙ (f ∙ o) in cc),
              (b.0, b.1, b.2 ∙ sym is, b.3 ∙ sym is),
            );
        subjects = λ seat v p. (live s r seat v p).0;
        out_subject = λ seat v p e. let o = (live s r seat v p).1.out e in subst (λ z. IfSome z (λ y. subject y ≡ about)) (sym o.1) o.3;
        range = subst (λ (n : ℕ). n ≤ 5) (sym is) r.small;
        stage_fits = subst (fits about) (sym is) r.fitting;
        floors_fit = λ seat v p. (live s r seat v p).1.fitting;
        marks_fit = λ seat v p. (live s r seat v p).1.marks;
        alone = alone_of s r;
      }
