use Rattle.std.proofs.lemmas.Result.{err_from_is_err_and}
use Rattle.gdbindex_read.specs.Areas.{areas_seen}
use Rattle.gdbindex_read.proofs.Opened.{at_areas, at_lists}
use Rattle.gdbindex_read.proofs.parts.Parts.open.Goals as goal

pub returns-in_err-areas-clause-fault : goal.returns-in_err-areas-clause-fault
returns-in_err-areas-clause-fault c =
    let p = err_from_is_err_and c.from_residual.result c.from_residual.ensures.1 in
    rw (p.1, p.2) (at_areas c.args.bytes.now c.in_err-areas.field-0.0 c.in_err-areas.ensures.value)

pub returns-in_err-check_units-clause-fault : goal.returns-in_err-check_units-clause-fault
returns-in_err-check_units-clause-fault c =
    let p = err_from_is_err_and c.from_residual-in_err-check_units.result c.from_residual-in_err-check_units.ensures.1 in
    rw (p.1, p.2) (at_lists c.args.bytes.now (areas_seen c.in_ok-areas.areas) c.in_ok-areas.ensures.value c.in_err-check_units.field-0.0 c.in_err-check_units.ensures)

pub of-requires : goal.of-requires
of-requires c = record {
  small = c.in_ok-areas.ensures.small;
  shortcut = c.in_ok-areas.ensures.shortcut;
}

pub returns-clause-parts : goal.returns-clause-parts
returns-clause-parts c = c.of.ensures.parts c.args.bytes.now (record { are = c.in_ok-areas.ensures.value; whole = c.in_ok-check_units.ensures })

pub returns-clause-fault : goal.returns-clause-fault
returns-clause-fault c = c.of.ensures.fault c.args.bytes.now (record { are = c.in_ok-areas.ensures.value; whole = c.in_ok-check_units.ensures })
