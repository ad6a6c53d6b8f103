use Rattle.std.proofs.Common.{◌≡◌, ◌<◌, ◌+◌, ◌++◌, List, length, filter_map, drop, Some, None, sym, ap, ◌∙◌, arith, length-set, append-nil}
use Rattle.std.specs.Prelude.{slice_set}
use Rattle.index_model.specs.declared.entry.Entry.{Entry}
use Rattle.stage_core.specs.Inputs.{run_in}
use Rattle.stage_core.specs.Slots.{made_as, made_of_slots}
use Rattle.stage_core.proofs.SlotLaws.{moved_more}
use Rattle.stage_core.proofs.slots.move_runs.Goals as goal
use Rattle.stage_core.proofs.slots.move_runs.Goals.{in-Some, in_default}

pub loop-slot-preserved : goal.loop-slot-preserved
loop-slot-preserved c =
    let slots = c.loop-slot.slots in
    let i = c.loop-slot.slot-index in
    let slot = c.slot-item.result in
    let lt : i < length slots = omega (arith, c.loop-slot-test.true, c.loop-slot.auto.slots) in
    let size = length-set slots i c.take.new.self in
    let made : c.run_of.result ≡ made_as run_in slot = c.run_of.ensures ∙ ap (made_as run_in) (c.take.ensures.value ∙ sym c.slot-item.is) in
    elim c.match-run_of.branch [
      | in-Some w ↦ record {
        room = rw (w.runs-is) (omega (arith, size, w.push_reserved.ensures.len, w.push_reserved.ensures.capacity, c.loop-slot.invariant.room));
        moved = rw (w.runs-is, w.push_reserved.ensures.items) (moved_more slots i slot c.take.new.self c.loop-slot.runs.items (Some w.in-Some.run') lt c.slot-item.is (sym w.in-Some.is ∙ made) ∙ c.loop-slot.invariant.moved);
      }
      | in_default w ↦ record {
        room = rw (w.runs-is) (omega (arith, size, c.loop-slot.invariant.room));
        moved =
            let all = filter_map run_in (made_of_slots (drop (i + 1) (slice_set slots i c.take.new.self))) in
            rw (w.runs-is) (ap (λ (rs : List (List Entry)). rs ++ all) (sym (append-nil c.loop-slot.runs.items)) ∙
            (moved_more slots i slot c.take.new.self c.loop-slot.runs.items None lt c.slot-item.is (sym w.in_default.is ∙ made) ∙ c.loop-slot.invariant.moved));
      }
    ]
