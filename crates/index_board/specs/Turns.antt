-- What a turn at a board does.
use Rattle.std.specs.Prelude.{◌≡◌, ◌+◌, Bool, false, Option, Some, option_map}
use Rattle.index_model.specs.declared.job.Job.{Job}
use Rattle.index_model.specs.LawsCore.{IsState, plan_of}
use Rattle.index_model.specs.Machine.{Output, place_of_job}
use Rattle.index_model.specs.MachineEvents.{after_draw, after_finish, next_job}
use Rattle.index_model.specs.Outputs.{Subject, Made}
use Rattle.index_model.specs.Stages.{IsReachable}
use Rattle.stage_core.specs.Inputs.{Handed, handed}
use Rattle.stage_core.specs.Machines.{Machine, stage_of}
use Rattle.stage_lock.specs.Seen.{Lock, Seen}

-- One turn of a pass: it takes a machine out and puts one back.
pub record Turn (board : Lock Subject) (old new : Seen Machine Subject) (taken put : Machine) : Type 0 where
  -- what is taken out has the board's file, cut and kind of index, and some events lead to it
  pub subject : taken.subject ≡ board.subject
  pub state : IsState taken.subject taken.state
  -- stages go on from the floor
  pub entered : IsReachable old.floor (stage_of taken)
  pub left : IsReachable old.floor (stage_of put)
  -- the pass has one turn more, and the floor is the stage of what is put back
  pub pass : new ≡ record old { holding = false; turns = old.turns + 1; floor = stage_of put; value_out = Some taken; value_back = Some put }

-- the machine after one Draw
abbrev pub drawn : Machine → Machine
drawn m = record m { state = after_draw m.state }

-- the answer of that Draw: the job, with its input
abbrev pub next_task : Machine → Option Handed
next_task m = option_map (handed m.subject m.state) (next_job (plan_of m.subject) m.state)

-- the machine after one Finish of this job with this output, where memory may be refused
abbrev pub finished : Machine → Job → Output Made → Bool → Machine
finished m job output refused = record m { state = after_finish (plan_of m.subject) m.state (place_of_job job) output refused }
