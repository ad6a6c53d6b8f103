use Rattle.gdbindex_read.specs.Areas.{areas_seen}
use Rattle.gdbindex_read.proofs.Opened.{no_version, wrong_offset, short_shortcut, areas_found}
use Rattle.std.proofs.lemmas.Result.{err_from_is_err_and}
use Rattle.gdbindex_read.proofs.areas.Areas.open.Goals as goal

pub returns-in_err-version-clause-value : goal.returns-in_err-version-clause-value
returns-in_err-version-clause-value c =
    let p = err_from_is_err_and c.from_residual.result c.from_residual.ensures.1 in
    rw (p.1, p.2) (no_version c.args.section.now c.in_err-version.field-0.0 c.in_err-version.ensures.value)

pub returns-in_err-check_offsets-clause-value : goal.returns-in_err-check_offsets-clause-value
returns-in_err-check_offsets-clause-value c =
    let p = err_from_is_err_and c.from_residual-in_err-check_offsets.result c.from_residual-in_err-check_offsets.ensures.1 in
    rw (p.1, p.2) (wrong_offset c.args.section.now c.in_ok-version.version c.in_ok-version.ensures.value c.in_err-check_offsets.field-0.0 c.in_err-check_offsets.ensures.value)

pub returns-in_err-check_shortcut-clause-value : goal.returns-in_err-check_shortcut-clause-value
returns-in_err-check_shortcut-clause-value c =
    let p = err_from_is_err_and c.from_residual-in_err-check_shortcut.result c.from_residual-in_err-check_shortcut.ensures.1 in
    rw (p.1, p.2) (short_shortcut c.args.section.now c.in_ok-version.version c.in_ok-version.ensures.value c.in_ok-check_offsets.ensures.value (areas_seen c.areas_between-areas.result) c.areas_between-areas.ensures.value c.in_err-check_shortcut.field-0.0 c.in_err-check_shortcut.ensures.value)

pub returns-clause-value : goal.returns-clause-value
returns-clause-value c = areas_found c.args.section.now c.in_ok-version.version c.in_ok-version.ensures.value c.in_ok-check_offsets.ensures.value (areas_seen c.areas_between-areas.result) c.areas_between-areas.ensures.value c.in_ok-check_shortcut.ensures.value
