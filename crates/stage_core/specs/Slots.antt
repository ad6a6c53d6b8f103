-- What contracts see of the slots of a kind.
use Rattle.std.specs.Prelude.{List, map, filter_map, Option, option_map}
use Rattle.ix_base.specs.Reading.{◌>>=◌ as ◌>>=?◌}
use Rattle.index_model.specs.Machine.{Output as OutputOf}
use Rattle.index_model.specs.MachineEvents.{made_in}
use Rattle.index_model.specs.Outputs.{Made}
use Rattle.stage_core.specs.declared.output.Output.{Output}
use Rattle.stage_core.specs.Outputs.{output_seen}

-- what a job brought
abbrev pub slot_seen : Option Output → Option (OutputOf Made)
slot_seen slot = option_map output_seen slot

-- what each job brought
abbrev pub slots_seen : List (Option Output) → List (Option (OutputOf Made))
slots_seen slots = map slot_seen slots

-- what the jobs made
abbrev pub made_of_slots : List (Option Output) → List Made
made_of_slots slots = filter_map made_in (slots_seen slots)

-- what a job made, if the function takes it
abbrev pub made_as : {A : Type 0} → (Made → Option A) → Option Output → Option A
made_as f slot = made_in (slot_seen slot) >>=? f
