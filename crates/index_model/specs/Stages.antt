-- The stages of a build (this project's own rule).
use Rattle.std.specs.Prelude.{ℕ, Bool, ◌&&◌, nat_le, ◌==◌, if◌then◌else◌, List, [], ◌∷◌, IsTrue}
use Rattle.std.specs.List.{list_any}

-- nothing can be asked yet
abbrev pub initial : ℕ
initial = 0

-- main and the units at addresses can be asked
abbrev pub main_available : ℕ
main_available = 1

-- names can be asked
abbrev pub finalised : ℕ
finalised = 2

-- the cache is written
abbrev pub cache_written : ℕ
cache_written = 3

-- the file has a fault
abbrev pub refused : ℕ
refused = 4

-- memory was refused
abbrev pub stopped : ℕ
stopped = 5

-- the steps: 0 to 1, 1 to 2, 2 to 3; 0 to 4; and 0, 1 or 2 to 5
abbrev pub steps : List (ℕ × ℕ)
steps =
    (initial, main_available) ∷ (main_available, finalised) ∷ (finalised, cache_written) ∷
    (initial, refused) ∷
    (initial, stopped) ∷ (main_available, stopped) ∷ (finalised, stopped) ∷
    []

-- whether a step leads from s to t
abbrev pub is_step : ℕ → ℕ → Bool
is_step s t = list_any (λ step. step.0 == s && step.1 == t) steps

-- a step leads from s to t
abbrev pub StageStep : ℕ → ℕ → Type 0
StageStep s t = IsTrue (is_step s t)

-- t is s, or some steps lead from s to t
pub data IsReachable : ℕ → ℕ → Type 0 where
  same : {s : ℕ} → IsReachable s s
  after : {s t u : ℕ} → StageStep s t → IsReachable t u → IsReachable s u

-- the level behind a step into a stage: the stage 1, 2 or 3 itself; a step into 4 or 5 keeps it
abbrev pub level : ℕ → ℕ → ℕ
level before stage = if nat_le main_available stage && nat_le stage cache_written then stage else before
