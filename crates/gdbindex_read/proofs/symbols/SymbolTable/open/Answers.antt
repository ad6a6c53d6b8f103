use Rattle.gdbindex_read.specs.Areas.{area_seen, areas_seen}
use Rattle.gdbindex_read.proofs.SlotsRead.{wrong_size, wrong_slot, right_slots, right_size}
use Rattle.std.proofs.lemmas.Result.{err_from_is_err_and}
use Rattle.gdbindex_read.proofs.symbols.SymbolTable.open.Goals as goal

pub returns-in_err-check_size-clause-value : goal.returns-in_err-check_size-clause-value
returns-in_err-check_size-clause-value c =
    let p = err_from_is_err_and c.from_residual.result c.from_residual.ensures.1 in
    rw (p.1, p.2) (wrong_size (areas_seen c.args.areas.now) c.in_err-check_size.field-0.0 c.in_err-check_size.ensures)

pub returns-in_err-check_slots-clause-value : goal.returns-in_err-check_slots-clause-value
returns-in_err-check_slots-clause-value c =
    let p = err_from_is_err_and c.from_residual-in_err-check_slots.result c.from_residual-in_err-check_slots.ensures.1 in
    rw (p.1, p.2) (wrong_slot (areas_seen c.args.areas.now) c.in_ok-check_size.ensures c.in_err-check_slots.field-0.0 c.in_err-check_slots.ensures)

pub returns-clause-value : goal.returns-clause-value
returns-clause-value c = right_slots (areas_seen c.args.areas.now) c.in_ok-check_size.ensures c.in_ok-check_slots.ensures

pub returns-clause-size : goal.returns-clause-size
returns-clause-size c = right_size (area_seen c.args.areas.now.table) c.in_ok-check_size.ensures
