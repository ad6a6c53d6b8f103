-- Want of memory stops the machine.
use Rattle.std.specs.Prelude.{Bool, if◌then◌else◌}
use Rattle.index_model.specs.Machine.{State, Stopped}
use Rattle.index_model.specs.Outputs.{Made}

-- the state, stopped if memory is wanted
abbrev pub stopped_if : State Made → Bool → State Made
stopped_if t memory = record t { end = (if memory then Stopped else t.end) }
