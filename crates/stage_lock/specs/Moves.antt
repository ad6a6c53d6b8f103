-- What each step tells: of the word that it found, or stored, and of the pass before and after.
use Rattle.std.specs.Prelude.{◌≡◌, ◌≢◌, ℕ, ◌+◌, ◌≤◌, max, List, [], ◌∷◌, ◌++◌, Option, Some, None, IfSome}
use Rattle.atomic_table.specs.Table.{Me, Step, rest}
use Rattle.index_model.specs.Stages.{IsReachable, stopped}
use Rattle.stage_lock.specs.declared.known.Known.{Known}
use Rattle.stage_lock.specs.declared.known.Turn.TheVariants.{Without, Won, Out, Back}

-- what a pass knows, and what it has in hand
abbrev pub Stepper : Type 0 → Type 0 → Type 0
Stepper V X = Me (Option V) (Known V X)

-- the value in hand
abbrev pub in_hand : {V : Type 0} → List (ℕ × Option V) → Option V
in_hand [] = None
in_hand (slot ∷ slots) = slot.1

module _ {V X : Type 0} where
  -- the turn is won where TURN is 0; else nothing changes
  abbrev pub tries_turn : Step (Option V) → Stepper V X → ℕ → Stepper V X → Type 0
  tries_turn step before found after = (found ≡ 0 → after ≡ (record before.0 { turn = Won; turns = before.0.turns + 1 }, before.1)) × (found ≢ 0 → after ≡ before)

  -- the value is out, and has the stage that was found
  abbrev pub notes_stage : (V → ℕ) → (V → X) → Step (Option V) → Stepper V X → ℕ → Stepper V X → Type 0
  notes_stage stage_of subject step before found after =
      (y : V) × (after ≡ (record before.0 { turn = Out; floor = found; value_out = Some y }, (0, Some y) ∷ []))
      × (stage_of y ≡ found) × (before.0.about ≡ Some (subject y)) × IsReachable before.0.floor found

  -- the stage that was found is the floor and the last mark; while the value is out, it is the value's
  abbrev pub adds_mark : (V → ℕ) → (X → ℕ → Type 0) → Step (Option V) → Stepper V X → ℕ → Stepper V X → Type 0
  adds_mark stage_of fits step before found after =
      (after ≡ (record before.0 { marks = before.0.marks ++ found ∷ []; floor = found }, before.1))
      × IsReachable before.0.floor found × (found ≤ stopped) × IfSome before.0.about (λ about. fits about found)
      × (before.0.turn ≡ Out → IfSome before.0.value_out (λ y. stage_of y ≡ found))

  -- the value in hand goes home, and the stage that is stored is reachable from the floor
  abbrev pub publishes : Step (Option V) → Stepper V X → ℕ → Stepper V X → Type 0
  publishes step before stored after = (after ≡ (record before.0 { turn = Back; floor = stored; value_back = in_hand before.1 }, rest before.1)) × IsReachable before.0.floor stored

  -- the turn is given up
  abbrev pub unlocks : Step (Option V) → Stepper V X → ℕ → Stepper V X → Type 0
  unlocks step before stored after = after ≡ (record before.0 { turn = Without }, before.1)

  -- the old floors go, and the greater of them is reachable from both
  abbrev pub settles : Step (Option V) → Stepper V X → ℕ → Stepper V X → Type 0
  settles step before found after =
      (after ≡ (record before.0 { old_floors = [] }, before.1))
      × ((a b : ℕ) → before.0.old_floors ≡ a ∷ b ∷ [] → before.0.floor ≡ max a b → IsReachable a (max a b) × IsReachable b (max a b))
