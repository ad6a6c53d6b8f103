-- The core as a machine: jobs are drawn and finished by events of any actors, kind by kind.
use Rattle.std.specs.Prelude.{◌≡◌, ◌≤◌, ℕ, zero, suc, ◌+◌, Bool, true, false, List, [], ◌∷◌, length, replicate, take, fold, flat_map, slice_get, option_map, Contains, Option, None}
use Rattle.ix_base.specs.declared.fault.Fault.{Fault}
use Rattle.ix_base.specs.Reading.{◌>>=◌ as ◌>>=?◌}
use Rattle.index_model.specs.declared.job.Job.{Job}
use Rattle.index_model.specs.declared.job.Job.TheVariants.{Scan, Link, Main, Name, Merge, Write}
use Rattle.index_model.specs.Stages.{initial, main_available, finalised, cache_written, refused, stopped}

-- the runs, one after the other, make up all units; a run may be empty
abbrev pub MakeUp : {A : Type 0} → List (List A) → List A → Type 0
MakeUp runs units = flat_map (λ run. run) runs ≡ units

-- a cut of the units: as many runs as shards, which make up all units, and their lengths differ by at most one
pub record IsCut {A : Type 0} (units : List A) (shards : ℕ) (runs : List (List A)) : Type 0 where
  pub count : length runs ≡ shards
  pub all : MakeUp runs units
  pub even : (r q : List A) → Contains runs r → Contains runs q → length r ≤ length q + 1

-- ---- the plan

-- a kind of jobs: the job with a number, how many there are, and the level once all of them are finished
pub record Row : Type 0 where
  pub job : ℕ → Job
  pub jobs : ℕ
  pub level : ℕ

-- the kinds in their order, for so many runs
abbrev pub plan_for : ℕ → List Row
plan_for runs =
    record { job = Scan; jobs = runs; level = initial } ∷
    record { job = Link; jobs = runs; level = initial } ∷
    record { job = λ _. Main; jobs = 1; level = main_available } ∷
    record { job = Name; jobs = runs; level = main_available } ∷
    record { job = λ _. Merge; jobs = 1; level = finalised } ∷
    record { job = λ _. Write; jobs = 1; level = cache_written } ∷
    []

-- a job by the place of its kind in the order, and its number among those of its kind
pub record JobPlace : Type 0 where
  pub kind : ℕ
  pub number : ℕ

-- where a job stands in the order
abbrev pub place_of_job : Job → JobPlace
place_of_job (Scan k) = record { kind = 0; number = k }
place_of_job (Link k) = record { kind = 1; number = k }
place_of_job Main = record { kind = 2; number = 0 }
place_of_job (Name k) = record { kind = 3; number = k }
place_of_job Merge = record { kind = 4; number = 0 }
place_of_job Write = record { kind = 5; number = 0 }

-- the job at a place of the plan
abbrev pub job_at : List Row → JobPlace → Option Job
job_at plan place = option_map (λ row. row.job place.number) (slice_get plan place.kind)

-- how many jobs the kind at a place has; none behind the last kind
abbrev pub jobs_at : List Row → ℕ → ℕ
jobs_at [] place = 0
jobs_at (row ∷ rows) zero = row.jobs
jobs_at (row ∷ rows) (suc place) = jobs_at rows place

-- ---- states

-- what a job brings: want of memory, a fault, or what it made
pub data Output (Made : Type 0) : Type 0 where
  Memory : Output Made
  Faulty : Fault → Output Made
  Gave : Made → Output Made

-- jobs go on, or the machine is stopped or refused
pub data End : Type 0 where
  Going Stopped : End
  Refused : Fault → End

-- what the jobs of the closed kinds made, kind by kind; the next kind is open: how many of its jobs are drawn, and what each brought
pub record State (Made : Type 0) : Type 0 where
  pub closed : List (List Made)
  pub drawn : ℕ
  pub brought : List (Option (Output Made))
  pub end : End

-- whether jobs go on
abbrev pub is_going : End → Bool
is_going Going = true
is_going (Refused f) = false
is_going Stopped = false

-- whether the machine is stopped
abbrev pub is_stopped : End → Bool
is_stopped Stopped = true
is_stopped Going = false
is_stopped (Refused f) = false

module _ {Made : Type 0} where
  -- the level that the last of the closed kinds brought
  abbrev pub level : List Row → State Made → ℕ
  level plan s = fold (λ _ row. row.level) 0 (take (length s.closed) plan)

  -- 4 where the machine is refused and 5 where it is stopped, else the level
  abbrev pub stage : List Row → State Made → ℕ
  stage plan s = at s.end
    where
      at : End → ℕ
      at Going = level plan s
      at (Refused f) = refused
      at Stopped = stopped

  -- the kind behind the closed ones is open, and none of its jobs is drawn
  abbrev pub opened : List Row → List (List Made) → State Made
  opened plan closed = record { closed = closed; drawn = 0; brought = replicate (jobs_at plan (length closed)) None; end = Going }

  -- the start of a file whose headers have no fault
  abbrev pub machine_start : List Row → State Made
  machine_start plan = opened plan []

  -- the start of a file with a fault of its sections or headers
  abbrev pub refused_start : Fault → State Made
  refused_start f = record { closed = []; drawn = 0; brought = []; end = Refused f }

  -- what a job of a closed kind made
  abbrev pub made_by : State Made → JobPlace → Option Made
  made_by s job = slice_get s.closed job.kind >>=? λ made. slice_get made job.number
