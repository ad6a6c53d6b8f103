-- The core is right, over every cut and every list of events.
use Rattle.std.specs.Prelude.{◌≡◌, ◌<◌, ◌≤◌, ℕ, List, [], ◌∷◌, length, Option, Some, None, Ok, IsSomeAnd}
use Rattle.std.specs.List.{enumerate_from}
use Rattle.ix_base.specs.declared.fault.Fault.{Fault}
use Rattle.index_model.specs.declared.job.Job.TheVariants.{Main, Merge, Write}
use Rattle.index_model.specs.declared.unit.Unit.{Unit as UnitHeader}
use Rattle.index_model.specs.Meaning.{◌>>=◌, wrong_in}
use Rattle.index_model.specs.Sections.{Section, sections_of}
use Rattle.index_model.specs.Units.{units_of}
use Rattle.index_model.specs.Faults.{built_of, first_fault, IsAccepted}
use Rattle.index_model.specs.Stages.{IsReachable, level as level_behind}
use Rattle.index_model.specs.Queries.{Query}
use Rattle.index_model.specs.Answers.{reply_at}
use Rattle.index_model.specs.Cache.{size_in}
use Rattle.index_model.specs.Machine.{MakeUp, Row, plan_for, State, level, stage, machine_start, refused_start}
use Rattle.index_model.specs.MachineEvents.{Event, after_event, Run}
use Rattle.index_model.specs.Outputs.{Subject, Made, SummaryOf, TableOf, CacheOf, Makes, AllMeet}
use Rattle.index_model.specs.Parts.{Parts, parts, reply_by}

-- the parts are published by the level, and are what the file means
pub record PartsAreRight (s : Subject) (level : ℕ) (p : Parts) : Type 0 where
  pub summary : 1 ≤ level → IsSomeAnd p.summary (λ m. Makes s Main (SummaryOf m))
  pub no_summary : level < 1 → p.summary ≡ None
  pub table : 2 ≤ level → IsSomeAnd p.table (λ es. Makes s Merge (TableOf es))
  pub no_table : level < 2 → p.table ≡ None
  pub cache : 3 ≤ level → IsSomeAnd p.cache (λ c. Makes s Write (CacheOf c))
  pub no_cache : level < 3 → p.cache ≡ None

-- a state with these parts is right for the file
pub record IsRight (s : Subject) (stage level : ℕ) (p : Parts) : Type 0 where
  -- the stages 1 to 3 come only where the file is accepted
  pub accepted : 1 ≤ stage → stage ≤ 3 → IsAccepted s.file
  -- the fault is published at stage 4 alone, and is the first of the file
  pub refused : stage ≡ 4 → IsSomeAnd p.fault (λ f. first_fault s.file ≡ Some f)
  pub no_fault : (stage ≡ 4 → ⊥) → p.fault ≡ None
  pub parts : PartsAreRight s level p
  -- each look replies what the file replies at the stage
  pub looks : (q : Query) → reply_by p q stage ≡ Some (reply_at (built_of s.file) (size_in s.cache (built_of s.file)) q stage)

-- the plan of the runs
abbrev pub plan_of : Subject → List Row
plan_of s = plan_for (length s.runs)

-- a state of the subject's machine is right
abbrev pub StateIsRight : Subject → State Made → Type 0
StateIsRight s state = IsRight s (stage (plan_of s) state) (level (plan_of s) state) (parts state)

-- the sections and the headers of the file have no fault, and the runs make up all its units
pub record HasRuns (s : Subject) : Type 0 where
  pub sections : List Section
  pub units : List UnitHeader
  pub sections_are : sections_of s.file ≡ Ok sections
  pub units_are : units_of sections ≡ Ok units
  pub all : MakeUp s.runs (enumerate_from 0 units)

-- the first fault of the sections or, where they have none, of the units' headers
abbrev pub early_fault : List ℕ → Option Fault
early_fault file = wrong_in (sections_of file >>= units_of)

-- where the machine of a subject begins: with its first jobs open, or, without runs, refused with a fault of the sections or headers
pub data BeginsAt (s : Subject) : State Made → Type 0 where
  with_jobs : HasRuns s → BeginsAt s (machine_start (plan_of s))
  with_fault : (f : Fault) → early_fault s.file ≡ Some f → s.runs ≡ [] → BeginsAt s (refused_start f)

-- a state of the subject's machine: some events of any actors, in which each output is one for its job, lead to it
pub record IsState (s : Subject) (t : State Made) : Type 0 where
  pub start : State Made
  pub events : List (Event Made Query)
  pub begins : BeginsAt s start
  pub meet : AllMeet s events
  pub run : Run (plan_of s) start events t

-- whatever the cut and the events, each state is right
abbrev pub CoreIsRight : Type 0
CoreIsRight = (s : Subject) (t : State Made) → IsState s t → StateIsRight s t

-- what comes after an event of the machine, in which an output is one for its job, is a state of it
abbrev pub StatesGoOn : Type 0
StatesGoOn = (s : Subject) (t : State Made) (e : Event Made Query) → IsState s t → AllMeet s (e ∷ []) → IsState s (after_event (plan_of s) t e)

-- its stage is reachable from the stage before
abbrev pub StagesFollow : Type 0
StagesFollow = (s : Subject) (t : State Made) (e : Event Made Query) → IsState s t → AllMeet s (e ∷ []) →
    IsReachable (stage (plan_of s) t) (stage (plan_of s) (after_event (plan_of s) t e))

-- its level is that which a step into the new stage gives
abbrev pub LevelsFollow : Type 0
LevelsFollow = (s : Subject) (t : State Made) (e : Event Made Query) → IsState s t → AllMeet s (e ∷ []) →
    level (plan_of s) (after_event (plan_of s) t e) ≡ level_behind (level (plan_of s) t) (stage (plan_of s) (after_event (plan_of s) t e))
