use Rattle.std.proofs.Common.{◌≡◌, Some, None, ap, sym, ◌∙◌, arith}
use Rattle.ix_base.specs.Reading.{Input}
use Rattle.index_model.specs.Meaning.{wrong_in}
use Rattle.index_model.specs.GdbIndexRead.{slot_at}
use Rattle.gdbindex_read.specs.Areas.{areas_seen, item}
use Rattle.gdbindex_read.proofs.Loops.{all_items, fault_from_more, fault_from_here, fault_from_none}
use Rattle.std.proofs.lemmas.Result.{err_from_is_err_and}
use Rattle.gdbindex_read.proofs.slots.check_slots.Goals as goal

pub returns-in_err-check_slot : goal.returns-in_err-check_slot
returns-in_err-check_slot c =
    let a = areas_seen c.args.areas.now in
    let k = c.loop-number.number in
    let fault = c.in_err-check_slot.field-0.0 in
    let wrong : wrong_in (slot_at a (item 8 a.table k)) ≡ Some fault = ap (λ (i : Input). wrong_in (slot_at a i)) (sym c.item-slot.ensures.value) ∙ sym c.in_err-check_slot.ensures.value in
    let all = all_items (slot_at a) 8 a.table c.count-count.result c.count-count.ensures in
    let p = err_from_is_err_and c.from_residual.result c.from_residual.ensures.1 in
    rw (p.1, p.2) (sym (sym all ∙ sym c.loop-number.invariant.left ∙ fault_from_here (slot_at a) (item 8 a.table) k c.count-count.result fault (omega arith) wrong))

pub loop-number-preserved : goal.loop-number-preserved
loop-number-preserved c =
    let a = areas_seen c.args.areas.now in
    let k = c.loop-number.number in
    let right : wrong_in (slot_at a (item 8 a.table k)) ≡ None = ap (λ (i : Input). wrong_in (slot_at a i)) (sym c.item-slot.ensures.value) ∙ sym c.in_ok-check_slot.ensures.value in
    record {
      left = sym (fault_from_more (slot_at a) (item 8 a.table) k c.count-count.result (omega arith) right) ∙ c.loop-number.invariant.left;
      known = c.in_ok-check_slot.ensures.known;
    }

pub returns : goal.returns
returns c =
    let a = areas_seen c.args.areas.now in
    let all = all_items (slot_at a) 8 a.table c.count-count.result c.count-count.ensures in
    sym (sym all ∙ sym c.loop-number.invariant.left ∙ fault_from_none (slot_at a) (item 8 a.table) c.loop-number.number c.count-count.result (omega arith))
