-- What contracts see of the progress: the state of the machine.
use Rattle.std.specs.Prelude.{map}
use Rattle.index_model.specs.Machine.{State, End, Going, Stopped, Refused}
use Rattle.index_model.specs.Outputs.{Made}
use Rattle.stage_core.specs.declared.progress.End.{End as EndKept}
use Rattle.stage_core.specs.declared.progress.End.TheVariants as ends
use Rattle.stage_core.specs.declared.progress.Progress.TheInside.{Inside}
use Rattle.stage_core.specs.Slots.{slots_seen, made_of_slots}

-- whether jobs go on
abbrev pub end_seen : EndKept → End
end_seen ends.Going = Going
end_seen ends.Stopped = Stopped
end_seen (ends.Refused f) = Refused f

-- the state
abbrev pub progress_seen : Inside → State Made
progress_seen p = record {
  closed = map (λ slots. made_of_slots slots.value.items) p.closed.items;
  drawn = p.drawn;
  brought = slots_seen p.brought.items;
  end = end_seen p.end;
}
