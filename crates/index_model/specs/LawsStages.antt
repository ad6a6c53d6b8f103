-- Laws of the stages.
use Rattle.std.specs.Prelude.{◌≡◌, ◌<◌, ◌≤◌, ◌↔◌, ℕ, Bool, IsTrue}
use Rattle.index_model.specs.Stages.{StageStep, IsReachable, cache_written}

-- A stage reaches itself and what its steps reach, and stages that are reached reach on. Any test that holds of so many holds of all that is reachable.
pub record ReachableIsTheClosure : Type 0 where
  pub itself : (s : ℕ) → IsReachable s s
  pub by_step : (s t : ℕ) → StageStep s t → IsReachable s t
  pub onwards : (s t u : ℕ) → IsReachable s t → IsReachable t u → IsReachable s u
  pub least : (holds : ℕ → ℕ → Bool) → ((s : ℕ) → IsTrue (holds s s)) → ((s t u : ℕ) → StageStep s t → IsTrue (holds t u) → IsTrue (holds s u)) → (s t : ℕ) → IsReachable s t → IsTrue (holds s t)

-- t is s; or it is above s and at most 5, and s is at most 2, and 0 where t is 4
abbrev pub Leads : ℕ → ℕ → Type 0
Leads s t = (s ≤ t) × (s < t → (t ≤ 5) × (s ≤ 2) × (t ≡ 4 → s ≡ 0))

-- what is reachable, by the order of the numbers
abbrev pub ReachableIsLeads : Type 0
ReachableIsLeads = (s t : ℕ) → IsReachable s t ↔ Leads s t

-- a stage once 3, 4 or 5 stays
abbrev pub LastStagesStay : Type 0
LastStagesStay = (s t : ℕ) → cache_written ≤ s → IsReachable s t → t ≡ s
