-- A machine with its subject, and what follows it.
use Rattle.std.specs.Prelude.{◌≡◌, ◌≤◌, ℕ, Bool, IsSome}
use Rattle.index_model.specs.declared.job.Job.{Job}
use Rattle.index_model.specs.Faults.{first_fault, IsAccepted}
use Rattle.index_model.specs.LawsCore.{IsState, plan_of}
use Rattle.index_model.specs.Machine.{Output, State, place_of_job, stage}
use Rattle.index_model.specs.MachineEvents.{after_draw, after_finish}
use Rattle.index_model.specs.Outputs.{Subject, Made, IsOutputOf}

-- a subject, and a state of its machine
pub record Machine : Type 0 where
  pub subject : Subject
  pub state : State Made

-- the second machine comes from the first by one event, or is the first
pub data ByOneEvent (m : Machine) : Machine → Type 0 where
  same : ByOneEvent m m
  draws : ByOneEvent m (record m { state = after_draw m.state })
  finishes : (job : Job) (output : Output Made) (refused : Bool) → IsOutputOf m.subject job output →
      ByOneEvent m (record m { state = after_finish (plan_of m.subject) m.state (place_of_job job) output refused })

-- so does a machine that some events of its subject lead to
pub record Follows (m n : Machine) : Type 0 where
  pub reached : IsState m.subject m.state
  pub event : ByOneEvent m n

-- the stage of a machine
abbrev pub stage_of : Machine → ℕ
stage_of m = stage (plan_of m.subject) m.state

-- the stages 1 to 3 fit only an accepted file, and stage 4 only one with a fault
pub record FitsFile (s : Subject) (n : ℕ) : Type 0 where
  pub accepted : 1 ≤ n → n ≤ 3 → IsAccepted s.file
  pub refused : n ≡ 4 → IsSome (first_fault s.file)
