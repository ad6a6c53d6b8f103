-- The views of all seats while one of them changes.
use Rattle.std.proofs.Common.{◌≡◌, ◌≢◌, ℕ, zero, suc, ◌≤◌, List, [], ◌∷◌, get_or, set, Option, Some, None, sym, refl, ap, ◌∙◌, subst, ⊎_elim, inl, inr}
use Rattle.std.specs.Prelude.{IsSome}
use Rattle.std.proofs.lemmas.Bool.{false≢true}
use mathlib.Core.Logic.{dite}
use mathlib.Core.Option.{some, none, some-injective, some-ne-none}
use native.Mathlib.Decide.{ℕ_discrete}
use lib.ListN.{get_elem?}
use lib.Seq.{set-get_or}
use Rattle.atomic_table.specs.Table.{State, Me, keeps, stepped}
use Rattle.atomic_table.proofs.Lists.{at_set, set_else}
use Rattle.index_model.specs.Stages.{IsReachable}
use Rattle.index_model.proofs.StageLaws.{closure}
use Rattle.stage_lock.specs.declared.known.Known.{Known}
use Rattle.stage_lock.specs.declared.known.Turn.{Turn}
use Rattle.stage_lock.specs.declared.known.Turn.TheVariants.{Without, Out}
use Rattle.stage_lock.specs.Rule.{word_of, Lives, Knows, Holds}
use Rattle.stage_lock.proofs.Shares.{kept_fine, kept_whole}
use Rattle.stage_lock.proofs.Turns.{dec_without}

module _ {V X : Type 0} (stage_of : V → ℕ) (subject : V → X) (fits : X → ℕ → Type 0) (about : X) where
  abbrev pub View : Type 0
  View = Known V X

  abbrev pub St : Type 0
  St = State (Option V) View

  abbrev pub M : Type 0
  M = Me (Option V) View

  abbrev pub Rule : St → Type 0
  Rule = Holds stage_of subject fits about

  abbrev pub K : Turn → ℕ → ℕ → ℕ → View → Type 0
  K turn holder now seat v = Knows stage_of subject fits about turn holder now seat v

  -- a pass that isn't spent has its facts
  pub lives : (turn : Turn) (holder now seat : ℕ) (v : View) → IsSome v.about → K turn holder now seat v → (v.about ≡ Some about) × Lives stage_of subject fits about turn holder now seat v
  lives turn holder now seat v live k = ⊎_elim (λ (t : (v.about ≡ None) × (v.turn ≡ Without)). absurd (false≢true (subst IsSome t.0 live))) (λ (t : (v.about ≡ Some about) × Lives stage_of subject fits about turn holder now seat v). t) k

  -- one seat has a new view, and the others keep theirs
  pub each_seat : (P : ℕ → View → Type 0) (views : List View) (seat : ℕ) (w : View) → P seat w → ((j : ℕ) (u : View) → j ≢ seat → get_elem? views j ≡ some u → P j u) → (j : ℕ) (u : View) → get_elem? (set views seat w) j ≡ some u → P j u
  each_seat P views seat w mine others j u e =
      ⊎_elim
      (λ (t : (j ≡ seat) × (w ≡ u)). subst (λ (x : ℕ × View). P x.0 x.1) (λ i. (sym t.0 i, t.1 i)) mine)
      (λ (t : (j ≢ seat) × (get_elem? views j ≡ some u)). others j u t.0 t.1)
      (at_set views seat j w u e)

  pub stage_at : (s : St) (r : Rule s) → get_or s.words 1 0 ≡ r.now
  stage_at s r = ap (λ ws. get_or ws 1 0) r.words

  pub turn_at : (s : St) (r : Rule s) → get_or s.words 0 0 ≡ word_of r.turn
  turn_at s r = ap (λ ws. get_or ws 0 0) r.words

  pub set_at : (l : List View) (i : ℕ) (a b : View) → get_elem? l i ≡ some a → get_elem? (set l i b) i ≡ some b
  set_at [] i a b e = absurd (some-ne-none a (sym e))
  set_at (x ∷ xs) zero a b e = refl
  set_at (x ∷ xs) (suc i) a b e = set_at xs i a b e

  -- the holder is there after a view is written that is as far with its turn
  pub still_held : (views : List View) (holder : ℕ) (turn : Turn) (seat : ℕ) (v w : View) → get_elem? views seat ≡ some v → w.turn ≡ v.turn → ((u : View) × (get_elem? views holder ≡ some u) × (u.turn ≡ turn)) → (u : View) × (get_elem? (set views seat w) holder ≡ some u) × (u.turn ≡ turn)
  still_held views holder turn seat v w at same h = dite (ℕ_discrete holder seat)
      (λ e. let is : some h.0 ≡ some v = sym h.1 ∙ (ap (get_elem? views) e ∙ at) in (w, ap (get_elem? (set views seat w)) e ∙ set_at views seat v w at, same ∙ (ap (λ (z : View). z.turn) (sym (some-injective h.0 v is)) ∙ h.2)))
      (λ other. (h.0, set_else views seat holder w other ∙ h.1, h.2))

  -- a load of the word i, at which one view changes and its turn stays
  pub unmoved : (s : St) (r : Rule s) (i seat : ℕ) (cs : List (ℕ × Option V)) (v w : View) → get_elem? s.views seat ≡ some v → w.turn ≡ v.turn → w.share ≡ v.share → K r.turn r.holder r.now seat w → Rule (stepped s i (get_or s.words i 0) seat cs w keeps)
  unmoved s r i seat cs v w at same shared mine = subst (λ (ws : List ℕ). Rule record { words = ws; homes = s.homes; views = set s.views seat w }) (sym (set-get_or s.words i 0)) record {
    turn = r.turn;
    holder = r.holder;
    now = r.now;
    words = r.words;
    home = r.home;
    away = r.away;
    small = r.small;
    fitting = r.fitting;
    held = λ l. still_held s.views r.holder r.turn seat v w at same (r.held l);
    scale = r.scale;
    fine = kept_fine r.scale s.views seat v w at shared r.fine;
    whole = kept_whole r.scale s.views seat v w at shared r.whole;
    each = each_seat (K r.turn r.holder r.now) s.views seat w mine (λ j u _. r.each j u);
  }

  -- what a pass without the turn knows stays so while STAGE goes on
  quiet_on : (turn : Turn) (holder now : ℕ) (turn' : Turn) (holder' now' seat : ℕ) (u : View) → IsReachable now now' → u.turn ≡ Without → K turn holder now seat u → K turn' holder' now' seat u
  quiet_on turn holder now turn' holder' now' seat u on idle k =
      ⊎_elim inl
      (λ (t : (u.about ≡ Some about) × Lives stage_of subject fits about turn holder now seat u).
      inr (
        t.0,
        record {
          has_share = t.1.has_share;
          fitting = t.1.fitting;
          reaches = closure.onwards u.floor now now' t.1.reaches on;
          olds = λ i d l. closure.onwards _ now now' (t.1.olds i d l) on;
          marks = t.1.marks;
          own = λ l. absurd (l idle);
          out = λ e. absurd (cc);
          back = λ e. absurd (cc);
        },
      ))
      k

  -- a pass other than the holder is without the turn
  quiet : (s : St) (r : Rule s) (seat : ℕ) (u : View) → get_elem? s.views seat ≡ some u → (seat ≡ r.holder → r.turn ≡ Without) → u.turn ≡ Without
  quiet s r seat u at idle =
      ⊎_elim (λ (t : (u.about ≡ None) × (u.turn ≡ Without)). t.1)
      (λ (t : (u.about ≡ Some about) × Lives stage_of subject fits about r.turn r.holder r.now seat u).
      dite (dec_without u.turn) (λ e. e) (λ busy. let h = t.1.own busy in absurd (busy (h.1 ∙ idle h.0))))
      (r.each seat u at)

  -- a pass that alone has the turn afterwards, if anyone has it, goes from the view v to w
  pub moved : (s : St) (r : Rule s) (seat : ℕ) (v w : View) (words' : List ℕ) (homes' : List (mathlib.Core.Option.Option (Option V))) (turn' : Turn) (now' : ℕ) → get_elem? s.views seat ≡ some v → w.turn ≡ turn' → w.share ≡ v.share → (r.turn ≢ Without → seat ≡ r.holder) → IsReachable r.now now' → now' ≤ 5 → fits about now'
      → words' ≡ word_of turn' ∷ now' ∷ [] → (turn' ≢ Out → (y : V) × (homes' ≡ some (Some y) ∷ []) × (stage_of y ≡ now') × (subject y ≡ about)) → (turn' ≡ Out → homes' ≡ none ∷ []) → K turn' seat now' seat w
      → Rule record { words = words'; homes = homes'; views = set s.views seat w }
  moved s r seat v w words' homes' turn' now' at is shared own on small fit words home away mine = record {
    turn = turn';
    holder = seat;
    now = now';
    words = words;
    home = home;
    away = away;
    small = small;
    fitting = fit;
    held = λ l. (w, set_at s.views seat v w at, is);
    scale = r.scale;
    fine = kept_fine r.scale s.views seat v w at shared r.fine;
    whole = kept_whole r.scale s.views seat v w at shared r.whole;
    each = each_seat (K turn' seat now') s.views seat w mine (λ j u other there. quiet_on r.turn r.holder r.now turn' seat now' j u on (quiet s r j u there (λ e. dite (dec_without r.turn) (λ none_has. none_has) (λ busy. absurd (other (e ∙ sym (own busy)))))) (r.each j u there));
  }
