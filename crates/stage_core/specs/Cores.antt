-- What contracts see of a core, and what holds of it.
use Rattle.index_model.specs.LawsCore.{IsState}
use Rattle.stage_core.specs.declared.machine.Core.TheInside.{Inside}
use Rattle.stage_core.specs.Build.{Fits, subject_of}
use Rattle.stage_core.specs.Machines.{Machine}

-- the machine
abbrev pub core_seen : Inside → Machine
core_seen c = record { subject = subject_of c.build; state = c.build.progress }

-- its parts fit each other, and some events lead to its state
pub record IsSound (c : Inside) : Type 0 where
  pub fits : Fits c.build
  pub reached : IsState (subject_of c.build) c.build.progress
