-- The law of the lock's rule.
use Rattle.std.specs.Prelude.{ℕ}
use Rattle.stage_lock.specs.Facts.{LockState, Facts}
use Rattle.stage_lock.specs.Rule.{Holds}

-- whatever the lock is about, each state with the rule has the facts
abbrev pub RuleHasTheFacts : {V X : Type 0} → (V → ℕ) → (V → X) → (X → ℕ → Type 0) → Type 0
RuleHasTheFacts {V} {X} stage_of subject fits = (about : X) (s : LockState V X) → Holds stage_of subject fits about s → Facts stage_of subject fits about s
