-- What a step makes of the progress.
use Rattle.std.proofs.Common.{◌≡◌, ℕ, Bool, cond, Some, ap, ◌∙◌}
use Rattle.std.specs.Vec.{with_item}
use Rattle.std.proofs.lemmas.List.{map-set}
use Rattle.index_model.specs.Machine.{State, End, Stopped}
use Rattle.index_model.specs.MachineEvents.{with_output}
use Rattle.index_model.specs.Outputs.{Made}
use Rattle.stage_core.specs.declared.output.Output.{Output}
use Rattle.stage_core.specs.declared.progress.End.{End as EndKept}
use Rattle.stage_core.specs.declared.progress.Progress.TheInside.{Inside}
use Rattle.stage_core.specs.Outputs.{output_seen}
use Rattle.stage_core.specs.Slots.{slot_seen}
use Rattle.stage_core.specs.Progress.{end_seen, progress_seen}
use Rattle.stage_core.specs.Stopping.{stopped_if}

-- a job brings an output, and the machine stops if memory is wanted
pub brings : (p : Inside) (number : ℕ) (output : Output) (end : EndKept) (memory : Bool) → end_seen end ≡ cond memory Stopped (end_seen p.end) →
    progress_seen (record { closed = p.closed; drawn = p.drawn; brought = with_item p.brought number (Some output); end = end }) ≡ stopped_if (with_output (progress_seen p) number (output_seen output)) memory
brings p number output end memory is =
    let was : State Made = progress_seen p in
    ap (λ bs. record { closed = was.closed; drawn = was.drawn; brought = bs; end = end_seen end }) (map-set slot_seen p.brought.items number (Some output)) ∙
    ap (λ (e : End). record { closed = was.closed; drawn = was.drawn; brought = (with_output was number (output_seen output)).brought; end = e }) is
