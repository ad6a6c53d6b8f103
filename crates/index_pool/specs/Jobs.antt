-- What a worker does with a job.
use Rattle.std.specs.Prelude.{◌≡◌, Bool, Some, None}
use Rattle.file_image.specs.Images.{Image}
use Rattle.index_model.specs.declared.job.Job.{Job}
use Rattle.index_model.specs.Machine.{Output}
use Rattle.index_model.specs.Outputs.{Subject, Made, IsOutputOf}
use Rattle.stage_core.specs.Inputs.{Handed}
use Rattle.stage_core.specs.Machines.{Machine}
use Rattle.stage_lock.specs.Seen.{Lock, Seen}
use Rattle.index_board.specs.Turns.{Turn, drawn, finished, next_task}
use Rattle.index_pool.specs.Drawn.{IsDrawn}

-- A core with the board's subject hands it out next.
pub record IsDrawnFrom (board : Lock Subject) (image : Image) (task : Handed) : Type 0 where
  pub drawn : IsDrawn image task
  pub subject : drawn.machine.subject ≡ board.subject

-- One turn, in which a job was finished with an output that is one for it.
pub record IsFinished (board : Lock Subject) (old new : Seen Machine Subject) (job : Job) : Type 0 where
  pub output : Output Made
  pub refused : Bool
  pub is_output : IsOutputOf board.subject job output
  pub after : Machine
  pub turn : Turn board old new after (finished after job output refused)

-- One job in two turns of a pass: in the first it was drawn, and in the second it was finished.
pub record IsDone (board : Lock Subject) (old new : Seen Machine Subject) : Type 0 where
  pub task : Handed
  pub before : Machine
  pub between : Seen Machine Subject
  pub draw : Turn board old between before (drawn before)
  pub next : next_task before ≡ Some task
  pub finish : IsFinished board between new task.job

-- One turn, in which there was no job to draw.
pub record HasNone (board : Lock Subject) (old new : Seen Machine Subject) : Type 0 where
  pub before : Machine
  pub draw : Turn board old new before (drawn before)
  pub next : next_task before ≡ None
