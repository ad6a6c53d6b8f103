use Rattle.std.proofs.Common.{◌≡◌, ◌+◌, ◌-◌, length, sym, ◌∙◌, arith}
use Rattle.std.proofs.lemmas.Result.{err_from_is_err_and}
use Rattle.common_laws.proofs.Numbers.{one_left}
use Rattle.reach_model.specs.LineTables.{old_directory}
use Rattle.line_files.proofs.TableLaws.{end_passed, item_passed, no_end, no_item_passed}
use Rattle.line_files.proofs.tables.pass_directories.Goals as goal

pub returns-in_err-read_directory : goal.returns-in_err-read_directory
returns-in_err-read_directory c =
    let count = length c.rest-end.result.now in
    let k = c.directories.counter in
    let left = one_left count k c.directories-test.true in
    let p = err_from_is_err_and c.from_residual.result c.from_residual.ensures.1 in
    rw (p.1, p.2) (sym (rw left at c.directories.invariant) ∙ no_item_passed (count - (k + 1)) old_directory c.directories.cursor c.in_err-read_directory.field-0.0 c.in_err-read_directory.ensures)

pub returns-in_default : goal.returns-in_default
returns-in_default c =
    let count = length c.rest-end.result.now in
    let k = c.directories.counter in
    let left = one_left count k c.directories-test.true in
    sym (rw left at c.directories.invariant) ∙ end_passed (count - (k + 1)) old_directory c.directories.cursor c.read_directory.new.cursor (rw c.in_default.is at c.in_ok-read_directory.ensures)

pub directories-preserved : goal.directories-preserved
directories-preserved c =
    let count = length c.rest-end.result.now in
    let k = c.directories.counter in
    let left = one_left count k c.directories-test.true in
    sym (item_passed (count - (k + 1)) old_directory c.directories.cursor c.in-Some.field-0.now c.read_directory.new.cursor (rw c.in-Some.is at c.in_ok-read_directory.ensures)) ∙ rw left at c.directories.invariant

pub returns : goal.returns
returns c =
    let out : length c.rest-end.result.now - c.directories.counter ≡ 0 = omega arith in
    sym (rw out at c.directories.invariant) ∙ no_end old_directory c.directories.cursor
