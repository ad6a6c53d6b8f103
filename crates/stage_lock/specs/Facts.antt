-- The facts that hold of a lock between any two steps.
use Rattle.std.specs.Prelude.{◌≡◌, ◌≢◌, ◌⊎◌, ◌↔◌, ℕ, ◌≤◌, [], ◌∷◌, All, Option, Some, IsSome, IfSome, slice_index}
use mathlib.Core.Option.{some, none}
use lib.ListN.{get_elem?}
use Rattle.atomic_table.specs.Table.{State}
use Rattle.index_model.specs.Stages.{IsReachable, stopped}
use Rattle.stage_lock.specs.declared.known.Known.{Known}
use Rattle.stage_lock.specs.declared.known.Turn.TheVariants.{Without, Won, Out, Back}
use Rattle.stage_lock.specs.Shares.{IsWhole}

-- the lock's words, its one slot, and what each pass knows
abbrev pub LockState : Type 0 → Type 0 → Type 0
LockState V X = State (Option V) (Known V X)

module _ {V X : Type 0} where
  -- TURN
  abbrev pub turn : LockState V X → ℕ
  turn s = slice_index s.words 0

  -- STAGE
  abbrev pub stage : LockState V X → ℕ
  stage s = slice_index s.words 1

  -- the value y is home
  abbrev pub IsHome : V → LockState V X → Type 0
  IsHome y s = s.homes ≡ some (Some y) ∷ []

  -- no value is home
  abbrev pub IsAway : LockState V X → Type 0
  IsAway s = s.homes ≡ none ∷ []

  -- the seat has a pass, which isn't spent and knows v
  abbrev pub IsPass : LockState V X → ℕ → Known V X → Type 0
  IsPass s seat v = (get_elem? s.views seat ≡ some v) × IsSome v.about

  abbrev pub HasTurn : Known V X → Type 0
  HasTurn v = v.turn ≢ Without

  -- some pass has the turn
  abbrev pub IsTaken : LockState V X → Type 0
  IsTaken s = (seat : ℕ) × (v : Known V X) × IsPass s seat v × HasTurn v

module _ {V X : Type 0} (stage_of : V → ℕ) (subject : V → X) (fits : X → ℕ → Type 0) (about : X) where
  -- the value is home, its stage is STAGE, and its subject is the lock's
  abbrev pub IsPublished : LockState V X → Type 0
  IsPublished s = (y : V) × IsHome y s × (stage_of y ≡ stage s) × (subject y ≡ about)

  pub record Facts (s : LockState V X) : Type 0 where
    -- 1. TURN is 0 or 1. It is 1 exactly where some pass has the turn
    pub bit : (turn s ≡ 0) ⊎ (turn s ≡ 1)
    pub taken : (turn s ≡ 1) ↔ IsTaken s
    -- 2. at most one pass has the turn. No value is home exactly where that pass has it out
    pub one : (i j : ℕ) (u v : Known V X) → IsPass s i u → HasTurn u → IsPass s j v → HasTurn v → i ≡ j
    pub away : IsAway s ↔ ((seat : ℕ) × (v : Known V X) × IsPass s seat v × (v.turn ≡ Out))
    -- 3. where no pass has the turn, the value is home and its stage is STAGE
    pub free : turn s ≡ 0 → IsPublished s
    -- 4. STAGE is reachable from each pass's floor, and from each old floor that a pass keeps
    pub floors : (seat : ℕ) (v : Known V X) → IsPass s seat v → IsReachable v.floor (stage s)
    pub old_floors : (seat : ℕ) (v : Known V X) → IsPass s seat v → All (λ floor. IsReachable floor (stage s)) v.old_floors
    -- 5. a pass with the turn first has the value home, with STAGE. While it has the value out, STAGE is that value's stage.
    -- Then STAGE is its floor, which is the stage of the value that it put back
    pub won : (seat : ℕ) (v : Known V X) → IsPass s seat v → v.turn ≡ Won → IsPublished s
    pub out : (seat : ℕ) (v : Known V X) → IsPass s seat v → v.turn ≡ Out → (y : V) × (v.value_out ≡ Some y) × (stage_of y ≡ stage s)
    pub back : (seat : ℕ) (v : Known V X) → IsPass s seat v → v.turn ≡ Back → IsPublished s × ((y : V) × (v.value_back ≡ Some y) × (stage_of y ≡ stage s) × (v.floor ≡ stage s))
    -- 6. all subjects are one: that of each pass, and of the value that a pass has out; IsPublished says it of a value that is home
    pub subjects : (seat : ℕ) (v : Known V X) → IsPass s seat v → v.about ≡ Some about
    pub out_subject : (seat : ℕ) (v : Known V X) → IsPass s seat v → v.turn ≡ Out → IfSome v.value_out (λ y. subject y ≡ about)
    -- 7. STAGE, each pass's floor and each of its marks fit the subject
    pub range : stage s ≤ stopped
    pub stage_fits : fits about (stage s)
    pub floors_fit : (seat : ℕ) (v : Known V X) → IsPass s seat v → fits about v.floor
    pub marks_fit : (seat : ℕ) (v : Known V X) → IsPass s seat v → All (fits about) v.marks
    -- 8. a pass with the whole share is the only one
    pub alone : (i j : ℕ) (u v : Known V X) → IsPass s i u → IsWhole u.share → IsPass s j v → i ≡ j
