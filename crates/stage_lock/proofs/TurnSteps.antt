-- The steps of a turn keep the rule.
use Rattle.std.proofs.Common.{◌≡◌, ℕ, ◌+◌, ◌≤◌, eqb, [], ◌∷◌, get_or, set, Option, Some, None, sym, refl, ap, ◌∙◌, subst, inr, eq-eqb, ne_eqb}
use Rattle.std.specs.Option.{unwrap_or}
use Rattle.std.specs.Prelude.{IfSome, IsSome}
use Rattle.std.proofs.lemmas.Bool.{false≢true}
use mathlib.Core.Logic.{dite}
use mathlib.Core.Option.{some, none}
use native.Mathlib.Decide.{ℕ_discrete}
use lib.ListN.{get_elem?}
use lib.Seq.{set-get_or}
use prog.Atomic.{either}
use Rattle.atomic_table.specs.Table.{step, keeps, takes, gives, stepped, put_back, Allows}
use Rattle.index_model.specs.Stages.{IsReachable}
use Rattle.index_model.proofs.StageLaws.{closure}
use Rattle.stage_lock.specs.declared.known.Known.{Known}
use Rattle.stage_lock.specs.declared.known.Turn.TheVariants.{Without, Won, Out, Back}
use Rattle.stage_lock.specs.Rule.{word_of}
use Rattle.stage_lock.specs.Moves.{tries_turn, notes_stage, publishes, unlocks, in_hand}
use Rattle.stage_lock.proofs.Seats.{St, M, Rule, lives, stage_at, turn_at, unmoved, moved}
use Rattle.stage_lock.proofs.Stages.{reach_self}
use Rattle.stage_lock.proofs.Turns.{free}

module _ {V X : Type 0} (stage_of : V → ℕ) (subject : V → X) (fits : X → ℕ → Type 0) (about : X) where
  abbrev R : St stage_of subject fits about → Type 0
  R = Rule stage_of subject fits about

  -- the turn is won or lost
  pub win_allowed : (slots seat : ℕ) (me : M stage_of subject fits about) → IsSome me.0.about → me.0.turn ≡ Without → Allows R slots seat me 0 (λ n. either (eqb n 0) 1 n) (tries_turn (step slots 0 0 1 none) me)
  win_allowed slots seat me live idle s r _ at _ =
      let x : ℕ = get_or s.words 0 0 in
      let l = lives stage_of subject fits about r.turn r.holder r.now seat me.0 live (r.each seat me.0 at) in
      dite (ℕ_discrete x 0)
      (λ hit.
      let none_has : r.turn ≡ Without = free r.turn (sym (turn_at stage_of subject fits about s r) ∙ hit) in
      let w : Known V X = record me.0 { turn = Won; turns = me.0.turns + 1 } in (
        w,
        keeps,
        tt,
        subst (λ b. R (stepped s 0 (either b 1 x) seat me.1 w keeps)) (sym (eq-eqb x 0 hit))
            (moved stage_of subject fits about s r seat me.0 w (set s.words 0 1) s.homes Won r.now at refl refl (λ z. absurd (z none_has)) (reach_self r.now) r.small r.fitting (ap (λ ws. set ws 0 1) r.words) (λ _. r.home (λ e. cc)) (λ e. absurd (cc))
            (inr (
              l.0,
              record {
                has_share = l.1.has_share;
                fitting = l.1.fitting;
                reaches = l.1.reaches;
                olds = l.1.olds;
                marks = l.1.marks;
                own = λ _. (refl, refl);
                out = λ e. absurd (cc);
                back = λ e. absurd (cc);
              },
            ))),
        ((λ _. refl), (λ not. absurd (not hit))),
      ))
      (λ miss. (me.0, keeps, tt, subst (λ b. R (stepped s 0 (either b 1 x) seat me.1 me.0 keeps)) (sym (ne_eqb x 0 miss)) (unmoved stage_of subject fits about s r 0 seat me.1 me.0 me.0 at refl refl (r.each seat me.0 at)), ((λ hit. absurd (miss hit)), (λ _. refl))))

  -- the pass with the turn loads the stage and takes the value
  pub note_allowed : (slots seat : ℕ) (me : M stage_of subject fits about) → IsSome me.0.about → me.0.turn ≡ Won → me.1 ≡ [] → Allows R slots seat me 1 (λ n. n) (notes_stage stage_of subject (step slots 1 0 0 none) me)
  note_allowed slots seat me live won empty s r _ at _ =
      let g : ℕ = get_or s.words 1 0 in
      let is : g ≡ r.now = stage_at stage_of subject fits about s r in
      let l = lives stage_of subject fits about r.turn r.holder r.now seat me.0 live (r.each seat me.0 at) in
      let own = l.1.own (λ e. cc) in
      let turn_is : r.turn ≡ Won = sym own.1 ∙ won in
      let h = r.home (λ e. cc) in
      let y : V = h.0 in
      let w : Known V X = record me.0 { turn = Out; floor = g; value_out = Some y } in (
        w,
        takes 0 (Some y),
        ap (λ hs. get_elem? hs 0) h.1,
        moved stage_of subject fits about s r seat me.0 w (set s.words 1 g) (set s.homes 0 none) Out r.now at refl refl (λ _. own.0) (reach_self r.now) r.small r.fitting (set-get_or s.words 1 0 ∙ (r.words ∙ ap (λ t. word_of t ∷ r.now ∷ []) turn_is)) (λ ne. absurd (ne refl)) (λ _. ap (λ hs. set hs 0 none) h.1)
            (inr (
              l.0,
              record {
                has_share = l.1.has_share;
                fitting = subst (fits about) (sym is) r.fitting;
                reaches = subst (λ (z : ℕ). IsReachable z r.now) (sym is) (reach_self r.now);
                olds = l.1.olds;
                marks = l.1.marks;
                own = λ _. (refl, refl);
                out = λ _. (y, refl, h.2, h.3);
                back = λ e. absurd (cc);
              },
            )),
        (y, ap (λ cs. (w, (0, Some y) ∷ cs)) empty, h.2 ∙ sym is, l.0 ∙ ap (λ x. Some x) (sym h.3), subst (IsReachable me.0.floor) (sym is) l.1.reaches),
      )

  -- the pass with the turn puts a value home and stores its stage
  publish_of : (slots seat : ℕ) (me : M stage_of subject fits about) (x y : V) → IsSome me.0.about → me.0.turn ≡ Out → me.0.value_out ≡ Some x → me.1 ≡ (0, Some y) ∷ [] → stage_of y ≤ 5 → fits (subject y) (stage_of y) → subject y ≡ subject x → IsReachable (stage_of x) (stage_of y)
      → Allows R slots seat me 1 (λ _. stage_of y) (λ _. publishes (step slots 1 (stage_of y) 0 none) me (stage_of y))
  publish_of slots seat me x y live turn out carries small fit same on s r _ at _ =
      let l = lives stage_of subject fits about r.turn r.holder r.now seat me.0 live (r.each seat me.0 at) in
      let own = l.1.own (λ e. cc) in
      let turn_is : r.turn ≡ Out = sym own.1 ∙ turn in
      let o = l.1.out turn in
      let x_is : o.0 ≡ x = ap (λ z. unwrap_or z x) (sym o.1 ∙ out) in
      let about_is : subject y ≡ about = same ∙ (ap subject (sym x_is) ∙ o.3) in
      let now_is : r.now ≡ stage_of x = sym o.2 ∙ ap stage_of x_is in
      let w : Known V X = record me.0 { turn = Back; floor = stage_of y; value_back = in_hand me.1 } in
      let fit' : fits about (stage_of y) = subst (λ z. fits z (stage_of y)) about_is fit in
      let on' : IsReachable r.now (stage_of y) = subst (λ (z : ℕ). IsReachable z (stage_of y)) (sym now_is) on in (
        w,
        gives,
        tt,
        moved stage_of subject fits about s r seat me.0 w (set s.words 1 (stage_of y)) (put_back s.homes me.1) Back (stage_of y) at refl refl (λ _. own.0) on' small fit' (ap (λ ws. set ws 1 (stage_of y)) r.words ∙ ap (λ t. word_of t ∷ stage_of y ∷ []) turn_is)
            (λ _. (y, ap (put_back s.homes) carries ∙ ap (λ hs. set hs 0 (some (Some y))) (r.away turn_is), refl, about_is)) (λ e. absurd (cc))
            (inr (
              l.0,
              record {
                has_share = l.1.has_share;
                fitting = fit';
                reaches = reach_self (stage_of y);
                olds = λ i d z. closure.onwards _ r.now (stage_of y) (l.1.olds i d z) on';
                marks = l.1.marks;
                own = λ _. (refl, refl);
                out = λ e. absurd (cc);
                back = λ _. (y, ap in_hand carries, refl, refl);
              },
            )),
        (refl, closure.onwards me.0.floor r.now (stage_of y) l.1.reaches on'),
      )

  -- the same, as its caller has the facts
  pub publish_allowed : (slots seat : ℕ) (me : M stage_of subject fits about) (o : Option V) (y : V) (n : ℕ) → IsSome me.0.about → me.0.turn ≡ Out → me.0.value_out ≡ o → IsSome o → me.1 ≡ (0, Some y) ∷ [] → stage_of y ≡ n → n ≤ 5 → fits (subject y) n → IfSome o (λ x. (subject y ≡ subject x) × IsReachable (stage_of x) (stage_of y))
      → Allows R slots seat me 1 (λ _. n) (λ _. publishes (step slots 1 n 0 none) me n)
  publish_allowed slots seat me None y n live turn out some_out carries is small fit on = absurd (false≢true some_out)
  publish_allowed slots seat me (Some x) y n live turn out some_out carries is small fit on =
      subst (λ (k : ℕ). Allows R slots seat me 1 (λ _. k) (λ _. publishes (step slots 1 k 0 none) me k)) is
      (publish_of slots seat me x y live turn out carries (subst (λ (k : ℕ). k ≤ 5) (sym is) small) (subst (fits (subject y)) (sym is) fit) on.0 on.1)

  -- the pass with the turn gives it up
  pub unlock_allowed : (slots seat : ℕ) (me : M stage_of subject fits about) → IsSome me.0.about → me.0.turn ≡ Back → Allows R slots seat me 0 (λ _. 0) (λ _. unlocks (step slots 0 0 0 none) me 0)
  unlock_allowed slots seat me live turn s r _ at _ =
      let l = lives stage_of subject fits about r.turn r.holder r.now seat me.0 live (r.each seat me.0 at) in
      let own = l.1.own (λ e. cc) in
      let turn_is : r.turn ≡ Back = sym own.1 ∙ turn in
      let w : Known V X = record me.0 { turn = Without } in (
        w,
        keeps,
        tt,
        moved stage_of subject fits about s r seat me.0 w (set s.words 0 0) s.homes Without r.now at refl refl (λ _. own.0) (reach_self r.now) r.small r.fitting (ap (λ ws. set ws 0 0) r.words) (λ _. r.home (λ e. cc)) (λ e. absurd (cc))
            (inr (
              l.0,
              record {
                has_share = l.1.has_share;
                fitting = l.1.fitting;
                reaches = l.1.reaches;
                olds = l.1.olds;
                marks = l.1.marks;
                own = λ z. absurd (z refl);
                out = λ e. absurd (cc);
                back = λ e. absurd (cc);
              },
            )),
        refl,
      )

pub if_some : {V : Type 0} (P Q : V → Type 0) (o : Option V) → ((x : V) → P x → Q x) → IfSome o P → IfSome o Q
if_some P Q None f h = tt
if_some P Q (Some x) f h = f x h
