-- What closing a lock tells.
use Rattle.std.specs.Prelude.{◌≡◌, ◌≢◌, ℕ, true, Option, MatchOption}
use Rattle.stage_lock.specs.declared.known.Known.{Known}
use Rattle.stage_lock.specs.Facts.{LockState, turn, IsHome, IsPass, Facts}
use Rattle.stage_lock.specs.Seen.{Lock, Seen, seen}

-- some other pass entered and didn't leave
abbrev pub IsHeldByAnother : {V X : Type 0} → Lock X → Seen V X → LockState V X → Type 0
IsHeldByAnother {V} {X} lock pass s = (seat : ℕ) × (v : Known V X) × IsPass s seat v × (seen lock.id v ≢ pass) × ((seen lock.id v).holding ≡ true)

-- The lock ends in some state, of which its facts hold, and the pass is one of its passes there. The answer is the value, where TURN is 0; it is None where TURN is 1 and another pass has the turn
abbrev pub ClosesWith : {V X : Type 0} → (V → ℕ) → (V → X) → (X → ℕ → Type 0) → Lock X → Seen V X → Option V → Type 0
ClosesWith {V} {X} stage_of subject fits lock pass answer =
    (s : LockState V X) × Facts stage_of subject fits lock.subject s
    × ((seat : ℕ) × (v : Known V X) × IsPass s seat v × (seen lock.id v ≡ pass))
    × MatchOption answer ((turn s ≡ 1) × IsHeldByAnother lock pass s) (λ value. (turn s ≡ 0) × IsHome value s)
