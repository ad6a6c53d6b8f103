use Rattle.std.proofs.Common.{◌<◌, length, map, ◌∙◌, sym, arith}
use Rattle.std.proofs.lemmas.Result.{err_from_is_err_and}
use Rattle.std.proofs.lemmas.Bool.{eqb-true, eqb-false}
use Rattle.file_image.specs.Found.{section}
use Rattle.file_image.proofs.Opened.{at_ident, at_table, at_sections, at_compressed, at_info, opened}
use Rattle.file_image.proofs.sections.Sections.open.Goals as goal

pub returns-in_err-check_ident : goal.returns-in_err-check_ident
returns-in_err-check_ident c =
    let p = err_from_is_err_and c.from_residual.result c.from_residual.ensures.1 in
    rw (p.1, p.2) (at_ident c.args.file.now c.in_err-check_ident.field-0.0 c.in_err-check_ident.ensures.value)

pub returns-in_default : goal.returns-in_default
returns-in_default c = at_table c.args.file.now c.in_ok-check_ident.ensures.value c.table_fault.result (rw c.table_fault.ensures c.in_default.ensures)

pub returns-in_err-found : goal.returns-in_err-found
returns-in_err-found c =
    let file = c.args.file.now in
    let p = err_from_is_err_and c.from_residual-in_err-found.result c.from_residual-in_err-found.ensures.1 in
    rw (p.1, p.2) (at_sections file c.in_ok-check_ident.ensures.value c.in-Some.ensures.fits c.in_err-found.field-0.0 (rw (c.in-Some.ensures.count) at c.in_err-found.ensures.value))

pub returns-in_err-check_compressed : goal.returns-in_err-check_compressed
returns-in_err-check_compressed c =
    let file = c.args.file.now in
    let ss = map section c.in_ok-found.found.items in
    let p = err_from_is_err_and c.from_residual-in_err-check_compressed.result c.from_residual-in_err-check_compressed.ensures.1 in
    rw (p.1, p.2) (at_compressed file c.in_ok-check_ident.ensures.value c.in-Some.ensures.fits ss (rw (c.in-Some.ensures.count) at c.in_ok-found.ensures.value) c.in_err-check_compressed.field-0.0 (rw (c.deref.ensures.value) at c.in_err-check_compressed.ensures))

pub returns-then-is_empty : goal.returns-then-is_empty
returns-then-is_empty c =
    let file = c.args.file.now in
    let ss = map section c.in_ok-found.found.items in
    let none = eqb-true (length c.of-resolved.result.info.now) 0 (sym c.is_empty.ensures ∙ c.if-is_empty.true) in
    at_info file c.in_ok-check_ident.ensures.value c.in-Some.ensures.fits ss (rw (c.in-Some.ensures.count) at c.in_ok-found.ensures.value) (rw (c.deref.ensures.value) at c.in_ok-check_compressed.ensures) (rw c.deref-2.ensures.value at (rw c.of-resolved.ensures.info.value at none))

pub returns : goal.returns
returns c =
    let file = c.args.file.now in
    let ss = map section c.in_ok-found.found.items in
    let some = eqb-false (length c.of-resolved.result.info.now) 0 (sym c.is_empty.ensures ∙ c.if-is_empty.false) in
    let more : 0 < length c.of-resolved.result.info.now = omega (arith, some) in
    opened file c.in_ok-check_ident.ensures.value c.in-Some.ensures.fits ss (rw (c.in-Some.ensures.count) at c.in_ok-found.ensures.value) (rw (c.deref.ensures.value) at c.in_ok-check_compressed.ensures) (rw c.deref-2.ensures.value at (rw c.of-resolved.ensures.info.value at more))
