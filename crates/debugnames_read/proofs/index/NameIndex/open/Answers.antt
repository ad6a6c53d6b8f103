use Rattle.std.proofs.Common.{sym, ◌∙◌}
use Rattle.std.proofs.lemmas.Result.{err_from_is_err_and}
use Rattle.debugnames_read.specs.Tables.{tables_seen}
use Rattle.debugnames_read.proofs.Opened.{as_index, as_index_in, at_abbreviations, at_buckets, at_names, index_found, no_tables}
use Rattle.debugnames_read.proofs.index.NameIndex.open.Goals as goal

pub returns-in_err-tables : goal.returns-in_err-tables
returns-in_err-tables c =
    let p = err_from_is_err_and c.from_residual.result c.from_residual.ensures.1 in
    rw (p.1, p.2) (no_tables c.args.names.now c.args.strings.now c.args.base c.in_err-tables.field-0.0 c.in_err-tables.ensures)

pub returns-in_err-known : goal.returns-in_err-known
returns-in_err-known c =
    let t = tables_seen c.in_ok-tables.tables in
    let p = err_from_is_err_and c.from_residual-in_err-known.result c.from_residual-in_err-known.ensures.1 in
    rw (p.1, p.2) (as_index c.args.names.now c.args.strings.now c.args.base t c.in_ok-tables.ensures ∙ at_abbreviations t c.args.strings.now c.args.base c.in_err-known.field-0.0 (sym c.in_err-known.ensures.fault))

pub returns-in_err-check_buckets : goal.returns-in_err-check_buckets
returns-in_err-check_buckets c =
    let t = tables_seen c.in_ok-tables.tables in
    let p = err_from_is_err_and c.from_residual-in_err-check_buckets.result c.from_residual-in_err-check_buckets.ensures.1 in
    rw (p.1, p.2) (as_index c.args.names.now c.args.strings.now c.args.base t c.in_ok-tables.ensures ∙ at_buckets t c.args.strings.now c.args.base (sym c.in_ok-known.ensures.fault) c.in_err-check_buckets.field-0.0 (sym c.in_err-check_buckets.ensures))

pub returns-in_err-check : goal.returns-in_err-check
returns-in_err-check c =
    let t = tables_seen c.in_ok-tables.tables in
    let p = err_from_is_err_and c.from_residual-in_err-check.result c.from_residual-in_err-check.ensures.1 in
    rw (p.1, p.2) (as_index c.args.names.now c.args.strings.now c.args.base t c.in_ok-tables.ensures ∙ at_names t c.args.strings.now c.args.base (sym c.in_ok-known.ensures.fault) (sym c.in_ok-check_buckets.ensures) c.in_err-check.field-0.0 (sym c.in_err-check.ensures))

pub returns : goal.returns
returns c =
    let t = tables_seen c.in_ok-tables.tables in
    as_index_in c.args.names.now c.args.strings.now c.args.base t c.in_ok-tables.ensures (index_found t c.args.strings.now c.args.base (sym c.in_ok-known.ensures.fault) (sym c.in_ok-check_buckets.ensures) (sym c.in_ok-check.ensures))

pub invariant_of-result : goal.invariant_of-result
invariant_of-result c =
    let t = tables_seen c.in_ok-tables.tables in
    index_found t c.args.strings.now c.args.base (sym c.in_ok-known.ensures.fault) (sym c.in_ok-check_buckets.ensures) (sym c.in_ok-check.ensures)
