-- The loads that leave the turn as it is keep the rule.
use Rattle.std.proofs.Common.{◌≡◌, ℕ, ◌≤◌, [], ◌∷◌, ◌++◌, get_or, refl, subst, sym, inr, ◌∙◌, arith}
use Rattle.std.specs.Prelude.{All, IfSome, IsSome}
use Rattle.std.proofs.lemmas.List.Elements.{All-push, All-nil}
use Rattle.std.proofs.Math.Nat.{max-eq_left, max-eq_right}
use mathlib.Core.Logic.{dite}
use mathlib.Core.Option.{none}
use native.Mathlib.Decide.{dec_le}
use Rattle.atomic_table.specs.Table.{step, keeps, Allows}
use Rattle.index_model.specs.Stages.{IsReachable}
use Rattle.stage_lock.specs.declared.known.Known.{Known}
use Rattle.stage_lock.specs.Moves.{adds_mark, settles}
use Rattle.stage_lock.proofs.Seats.{St, M, Rule, lives, stage_at, unmoved}
use Rattle.stage_lock.proofs.Stages.{reach_self, reach_between}

module _ {V X : Type 0} (stage_of : V → ℕ) (subject : V → X) (fits : X → ℕ → Type 0) (about : X) where
  abbrev R : St stage_of subject fits about → Type 0
  R = Rule stage_of subject fits about

  -- a mark
  pub mark_allowed : (slots seat : ℕ) (me : M stage_of subject fits about) → IsSome me.0.about → Allows R slots seat me 1 (λ n. n) (adds_mark stage_of fits (step slots 1 0 0 none) me)
  mark_allowed slots seat me live s r _ at _ =
      let g : ℕ = get_or s.words 1 0 in
      let is : g ≡ r.now = stage_at stage_of subject fits about s r in
      let l = lives stage_of subject fits about r.turn r.holder r.now seat me.0 live (r.each seat me.0 at) in
      let w : Known V X = record me.0 { marks = me.0.marks ++ g ∷ []; floor = g } in (
        w,
        keeps,
        tt,
        unmoved stage_of subject fits about s r 1 seat me.1 me.0 w at refl refl (inr (
          l.0,
          record {
            has_share = l.1.has_share;
            fitting = subst (fits about) (sym is) r.fitting;
            reaches = subst (λ (z : ℕ). IsReachable z r.now) (sym is) (reach_self r.now);
            olds = l.1.olds;
            marks = All-push (fits about) me.0.marks g l.1.marks (subst (fits about) (sym is) r.fitting);
            own = l.1.own;
            out = l.1.out;
            back = λ e. let b = l.1.back e in (b.0, b.1, b.2, is);
          },
        )),
        (
          refl,
          subst (IsReachable me.0.floor) (sym is) l.1.reaches,
          subst (λ (z : ℕ). z ≤ 5) (sym is) r.small,
          subst (λ o. IfSome o (λ x. fits x g)) (sym l.0) (subst (fits about) (sym is) r.fitting),
          λ e. let o = l.1.out e in subst (λ z. IfSome z (λ y. stage_of y ≡ g)) (sym o.1) (o.2 ∙ sym is),
        ),
      )

  -- after a join the old floors go
  pub settle_allowed : (slots seat : ℕ) (me : M stage_of subject fits about) → IsSome me.0.about → Allows R slots seat me 1 (λ n. n) (settles (step slots 1 0 0 none) me)
  settle_allowed slots seat me live s r _ at _ =
      let l = lives stage_of subject fits about r.turn r.holder r.now seat me.0 live (r.each seat me.0 at) in
      let w : Known V X = record me.0 { old_floors = [] } in (
        w,
        keeps,
        tt,
        unmoved stage_of subject fits about s r 1 seat me.1 me.0 w at refl refl (inr (
          l.0,
          record {
            has_share = l.1.has_share;
            fitting = l.1.fitting;
            reaches = l.1.reaches;
            olds = All-nil (λ o. IsReachable o r.now);
            marks = l.1.marks;
            own = l.1.own;
            out = l.1.out;
            back = l.1.back;
          },
        )),
        (
          refl,
          λ a b olds top.
              let both : All (λ o. IsReachable o r.now) (a ∷ b ∷ []) = subst (All (λ o. IsReachable o r.now)) olds l.1.olds in
              let ra = both 0 0 (omega arith) in
              let rb = both 1 0 (omega arith) in
              dite (dec_le a b)
              (λ le. subst (λ (z : ℕ). IsReachable a z × IsReachable b z) (sym (max-eq_right le)) (reach_between a b r.now ra rb le, reach_self b))
              (λ (no : ¬ (a ≤ b)). subst (λ (z : ℕ). IsReachable a z × IsReachable b z) (sym (max-eq_left (omega arith))) (reach_self a, reach_between b a r.now rb ra (omega arith))),
        ),
      )
