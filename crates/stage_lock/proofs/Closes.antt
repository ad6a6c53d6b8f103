-- What the last state of a lock tells.
use Rattle.std.proofs.Common.{◌≡◌, ◌≢◌, ℕ, List, [], ◌∷◌, get_or, true, false, Option, sym, ap, ◌∙◌, subst}
use Rattle.std.specs.Prelude.{MatchOption}
use Rattle.std.proofs.lemmas.Bool.{false≢true}
use mathlib.Core.Logic.{dite}
use mathlib.Core.Option.{some, some-injective, some-ne-none}
use native.Mathlib.Decide.{ℕ_discrete}
use lib.ListN.{get_elem?}
use Rattle.atomic_table.specs.Seated.{TableId}
use Rattle.index_model.specs.Stages.{IsReachable}
use Rattle.stage_lock.specs.declared.known.Known.{Known}
use Rattle.stage_lock.specs.declared.known.Turn.TheVariants.{Without}
use Rattle.stage_lock.specs.Rule.{word_of, Holds}
use Rattle.stage_lock.specs.Facts.{LockState, turn, IsHome, IsPass}
use Rattle.stage_lock.specs.Seen.{Lock, Seen, seen, is_holding}
use Rattle.stage_lock.specs.Shares.{IsWhole}
use Rattle.stage_lock.specs.Closing.{IsHeldByAnother, ClosesWith}
use Rattle.stage_lock.proofs.Seats.{turn_at}
use Rattle.stage_lock.proofs.Turns.{free, taken, held_turn}
use Rattle.stage_lock.proofs.FactsHold.{live, holder_of, alone_of, facts_hold}

pub word_found : (ws : List ℕ) (n : ℕ) (vs : List ℕ) → get_elem? ws 0 ≡ some n → vs ≡ ws → get_or vs 0 0 ≡ n
word_found [] n vs e same = absurd (some-ne-none n (sym e))
word_found (w ∷ ws) n vs e same = ap (λ l. get_or l 0 0) same ∙ some-injective w n e

module _ {V X : Type 0} (stage_of : V → ℕ) (subject : V → X) (fits : X → ℕ → Type 0) (about : X) (s : LockState V X) (r : Holds stage_of subject fits about s) where
  -- where TURN is 0 the value is home, and is what a pass expects
  pub value_is : (seat : ℕ) (v : Known V X) → IsPass s seat v → turn s ≡ 0 → (y : V) × IsHome y s × (subject y ≡ about) × IsReachable v.floor (stage_of y)
  value_is seat v p e =
      let idle : r.turn ≡ Without = free r.turn (sym (turn_at stage_of subject fits about s r) ∙ e) in
      let h = r.home (λ o. let q = sym idle ∙ o in cc) in
      (h.0, h.1, h.3, subst (IsReachable v.floor) (sym h.2) (live stage_of subject fits about s r seat v p).1.reaches)

  -- where TURN isn't 0 it is 1, and another pass than one without the turn has it
  pub held_by_another : (lock : Lock X) (pass : Seen V X) → pass.holding ≡ false → turn s ≢ 0 → (turn s ≡ 1) × IsHeldByAnother lock pass s
  held_by_another lock pass idle busy =
      let at = turn_at stage_of subject fits about s r in
      let held : r.turn ≢ Without = λ e. busy (at ∙ ap word_of e) in
      let h = holder_of stage_of subject fits about s r held in
      let holding : is_holding h.0.turn ≡ true = held_turn h.0.turn h.2 in
      (at ∙ taken r.turn held, (r.holder, h.0, h.1, (λ e. false≢true (sym idle ∙ (sym (ap (λ (p : Seen V X). p.holding) e) ∙ holding))), holding))

  -- where a pass without the turn has the whole share, TURN is 0
  pub free_for_whole : (seat : ℕ) (v : Known V X) → IsPass s seat v → IsWhole v.share → is_holding v.turn ≡ false → turn s ≡ 0
  free_for_whole seat v p whole idle = dite (ℕ_discrete (turn s) 0) (λ e. e) (λ busy.
      let at = turn_at stage_of subject fits about s r in
      let held : r.turn ≢ Without = λ e. busy (at ∙ ap word_of e) in
      let h = holder_of stage_of subject fits about s r held in
      let same : seat ≡ r.holder = alone_of stage_of subject fits about s r seat r.holder v h.0 p whole h.1 in
      let is : v ≡ h.0 = some-injective v h.0 (sym p.0 ∙ (ap (get_elem? s.views) same ∙ h.1.0)) in
      absurd (false≢true (sym idle ∙ (ap (λ (z : Known V X). is_holding z.turn) is ∙ held_turn h.0.turn h.2))))

-- the lock ends in the state s, where the pass is
pub closes_with : {V X : Type 0} (stage_of : V → ℕ) (subject : V → X) (fits : X → ℕ → Type 0) (about : X) (s : LockState V X) (r : Holds stage_of subject fits about s) (id : TableId) (seat : ℕ) (v : Known V X) (lock : Lock X) (pass : Seen V X) (answer : Option V)
    → record { id = id; subject = about } ≡ lock → IsPass s seat v → seen id v ≡ pass → MatchOption answer ((turn s ≡ 1) × IsHeldByAnother lock pass s) (λ value. (turn s ≡ 0) × IsHome value s) → ClosesWith stage_of subject fits lock pass answer
closes_with {V} {X} stage_of subject fits about s r id seat v lock pass answer is p shown m =
    subst (λ (l : Lock X). MatchOption answer ((turn s ≡ 1) × IsHeldByAnother l pass s) (λ value. (turn s ≡ 0) × IsHome value s) → ClosesWith stage_of subject fits l pass answer) is
    (λ m'. (s, facts_hold stage_of subject fits about s r, (seat, v, p, shown), m')) m
