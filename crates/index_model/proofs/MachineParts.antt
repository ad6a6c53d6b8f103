-- Outputs that are right for their jobs, whatever the jobs make, and what then holds of a state.
use Rattle.std.specs.Prelude.{◌≡◌, ◌<◌, ℕ, zero, suc, List, [], ◌∷◌, length, Option, Some, None, IsSome}
use Rattle.std.specs.Option.{option_or}
use Rattle.ix_base.specs.declared.fault.Fault.{Fault}
use Rattle.index_model.specs.Machine.{Row, JobPlace, place_of_job, jobs_at, Output, Memory, Faulty, Gave, Refused, State, made_by}
use Rattle.index_model.specs.MachineEvents.{Event, Draw, Finish, Look}

-- ---- the first fault of all jobs

module _ (fault_at : JobPlace → Option Fault) where
  -- the first fault of n jobs of a kind, from a number on
  unfoldable pub fault_of_kind : ℕ → ℕ → ℕ → Option Fault
  fault_of_kind place number zero = None
  fault_of_kind place number (suc n) = option_or (fault_at (record { kind = place; number = number })) (fault_of_kind place (suc number) n)

  -- the first fault of all jobs in their order, from a kind on
  unfoldable pub fault_from : ℕ → List Row → Option Fault
  fault_from place [] = None
  fault_from place (row ∷ rows) = option_or (fault_of_kind place 0 row.jobs) (fault_from (suc place) rows)

-- ---- outputs that are right

-- of each job the first fault that it meets, and, where it meets none, what it makes
module _ {Made : Type 0} (fault_at : JobPlace → Option Fault) (Makes : JobPlace → Made → Type 0) where
  -- the output is right for the job; want of memory is free
  abbrev pub IsOutputAt : JobPlace → Output Made → Type 0
  IsOutputAt job Memory = Unit {0}
  IsOutputAt job (Faulty f) = fault_at job ≡ Some f
  IsOutputAt job (Gave made) = (fault_at job ≡ None) × Makes job made

  -- the output of each Finish is right for its job
  module _ {Query : Type 0} where
    abbrev pub AllMeetAt : List (Event Made Query) → Type 0
    AllMeetAt [] = Unit {0}
    AllMeetAt (Draw actor ∷ es) = AllMeetAt es
    AllMeetAt (Finish actor job output refused ∷ es) = IsOutputAt (place_of_job job) output × AllMeetAt es
    AllMeetAt (Look actor query ∷ es) = AllMeetAt es

  -- what holds of a state, whichever job ended first and whatever the cut
  pub record Holds (plan : List Row) (s : State Made) : Type 0 where
    -- the jobs of the closed kinds met no fault, and made what they should
    pub made : (job : JobPlace) (m : Made) → made_by s job ≡ Some m → (fault_at job ≡ None) × Makes job m
    -- all of them made something
    pub whole : (place number : ℕ) → place < length s.closed → number < jobs_at plan place → IsSome (made_by s (record { kind = place; number = number }))
    -- a refusal has the first fault, whichever job found its fault first
    pub refused : (f : Fault) → s.end ≡ Refused f → fault_from fault_at 0 plan ≡ Some f
