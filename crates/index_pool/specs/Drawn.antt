-- A job that a core of a file hands out, with what it is given.
use Rattle.std.specs.Prelude.{◌≡◌, Some, Ok, option_map}
use Rattle.file_image.specs.Images.{Image, image_of}
use Rattle.index_model.specs.LawsCore.{IsState, plan_of}
use Rattle.index_model.specs.Machine.{Output}
use Rattle.index_model.specs.MachineEvents.{next_job}
use Rattle.index_model.specs.Outputs.{Made, IsOutputOf}
use Rattle.stage_core.specs.Inputs.{Handed, handed}
use Rattle.stage_core.specs.Machines.{Machine}

-- a core of the image's file hands it out next
pub record IsDrawn (image : Image) (h : Handed) : Type 0 where
  pub machine : Machine
  pub reached : IsState machine.subject machine.state
  pub image_is : image_of machine.subject.file ≡ Ok image
  pub next : option_map (handed machine.subject machine.state) (next_job (plan_of machine.subject) machine.state) ≡ Some h

-- whichever core of the file hands it out, this is an output for the job
abbrev pub IsOutputFor : Image → Handed → Output Made → Type 0
IsOutputFor image h output = (d : IsDrawn image h) → IsOutputOf d.machine.subject h.job output
