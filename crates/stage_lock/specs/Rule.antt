-- The rule of the lock's table, by which each step is proved. Word 0 is TURN, word 1 is STAGE, and the one slot has the value.
-- Facts says what it comes to.
use Rattle.std.specs.Prelude.{◌≡◌, ◌≢◌, ◌⊎◌, ℕ, ◌≤◌, ◌^◌, max, [], ◌∷◌, All, Option, Some, None}
use mathlib.Core.Option.{some, none}
use lib.ListN.{get_elem?}
use Rattle.atomic_table.specs.Table.{State}
use Rattle.index_model.specs.Stages.{IsReachable, stopped}
use Rattle.stage_lock.specs.declared.known.Known.{Known}
use Rattle.stage_lock.specs.Shares.{whole_share, no_share, half_of, sum_of, all_parts}
use Rattle.stage_lock.specs.declared.known.Turn.{Turn}
use Rattle.stage_lock.specs.declared.known.Turn.TheVariants.{Without, Out, Back}

-- TURN, as the pass that is furthest with its turn has it
abbrev pub word_of : Turn → ℕ
word_of Without = 0
word_of _ = 1

module _ {V X : Type 0} where
  -- a pass that was taken in by another
  abbrev pub spent : Known V X
  spent = record { about = None; share = no_share; marks = []; floor = 0; old_floors = []; turn = Without; turns = 0; value_out = None; value_back = None }

  -- the first pass
  abbrev pub starting : X → ℕ → Known V X
  starting about floor = record { about = Some about; share = whole_share; marks = []; floor = floor; old_floors = []; turn = Without; turns = 0; value_out = None; value_back = None }

  -- v after a pass was split from it
  abbrev pub parted : Known V X → Known V X
  parted v = record v { share = half_of v.share }

  -- a pass that was split from v
  abbrev pub newcomer : Known V X → Known V X
  newcomer v = record { about = v.about; share = half_of v.share; marks = []; floor = v.floor; old_floors = []; turn = Without; turns = 0; value_out = None; value_back = None }

  -- v after it took w in, until it settles
  abbrev pub joined : Known V X → Known V X → Known V X
  joined v w = record v { share = sum_of v.share w.share; floor = max v.floor w.floor; old_floors = v.floor ∷ w.floor ∷ [] }

-- the turn is as far as `turn`, with the seat `holder`, and STAGE is `now`
module _ {V X : Type 0} (stage_of : V → ℕ) (subject : V → X) (fits : X → ℕ → Type 0) (about : X) (turn : Turn) (holder now seat : ℕ) where
  -- what a pass that isn't spent knows, at this seat
  pub record Lives (v : Known V X) : Type 0 where
    pub has_share : 1 ≤ v.share.part
    pub fitting : fits about v.floor
    pub reaches : IsReachable v.floor now
    pub olds : All (λ floor. IsReachable floor now) v.old_floors
    pub marks : All (fits about) v.marks
    pub own : v.turn ≢ Without → (seat ≡ holder) × (v.turn ≡ turn)
    pub out : v.turn ≡ Out → (y : V) × (v.value_out ≡ Some y) × (stage_of y ≡ now) × (subject y ≡ about)
    pub back : v.turn ≡ Back → (y : V) × (v.value_back ≡ Some y) × (stage_of y ≡ now) × (v.floor ≡ now)

  -- a pass is spent, or lives
  abbrev pub Knows : Known V X → Type 0
  Knows v = ((v.about ≡ None) × (v.turn ≡ Without)) ⊎ ((v.about ≡ Some about) × Lives v)

module _ {V X : Type 0} (stage_of : V → ℕ) (subject : V → X) (fits : X → ℕ → Type 0) (about : X) where
  pub record Holds (s : State (Option V) (Known V X)) : Type 0 where
    pub turn : Turn
    pub holder : ℕ
    pub now : ℕ
    pub words : s.words ≡ word_of turn ∷ now ∷ []
    pub home : turn ≢ Out → (y : V) × (s.homes ≡ some (Some y) ∷ []) × (stage_of y ≡ now) × (subject y ≡ about)
    pub away : turn ≡ Out → s.homes ≡ none ∷ []
    pub small : now ≤ stopped
    pub fitting : fits about now
    pub held : turn ≢ Without → (v : Known V X) × (get_elem? s.views holder ≡ some v) × (v.turn ≡ turn)
    -- all shares are the whole
    pub scale : ℕ
    pub fine : (seat : ℕ) (v : Known V X) → get_elem? s.views seat ≡ some v → v.share.halvings ≤ scale
    pub whole : all_parts scale s.views ≡ 2 ^ scale
    pub each : (seat : ℕ) (v : Known V X) → get_elem? s.views seat ≡ some v → Knows stage_of subject fits about turn holder now seat v
