use Rattle.std.proofs.Common.{◌≡◌, ◌+◌, Option, ap, sym, ◌∙◌}
use Rattle.std.proofs.lemmas.Result.{err_from_is_err_and}
use Rattle.index_model.specs.declared.index_code.TheConstants.{NAMES_COUNTS}
use Rattle.index_model.specs.Meaning.{fault, some_or}
use Rattle.index_model.specs.NameTables.{Tables}
use Rattle.debugnames_read.proofs.Headers.{at_length, at_tables, at_version}
use Rattle.debugnames_read.proofs.tables.Tables.open.Goals as goal

pub returns-in_err-wide : goal.returns-in_err-wide
returns-in_err-wide c =
    let p = err_from_is_err_and c.from_residual.result c.from_residual.ensures.1 in
    rw (p.1, p.2) (at_length c.args.section.now c.in_err-wide.field-0.0 (rw c.new-cursor.ensures at c.in_err-wide.ensures.value))

pub returns-in_err-read_version : goal.returns-in_err-read_version
returns-in_err-read_version c =
    let p = err_from_is_err_and c.from_residual-in_err-read_version.result c.from_residual-in_err-read_version.ensures.1 in
    rw (p.1, p.2) (at_version c.args.section.now c.in_ok-wide.wide c.read_length.new.cursor (rw c.new-cursor.ensures at c.in_ok-wide.ensures.value) c.in_err-read_version.field-0.0 c.in_err-read_version.ensures.value)

pub returns-in-Some : goal.returns-in-Some
returns-in-Some c =
    at_tables c.args.section.now c.in_ok-wide.wide c.read_length.new.cursor (rw c.new-cursor.ensures at c.in_ok-wide.ensures.value) (record {}) c.read_version.new.cursor c.in_ok-read_version.ensures.value
    ∙ ap (λ (o : Option Tables). some_or o (fault NAMES_COUNTS (c.read_length.new.cursor.at + 4))) (sym c.in-Some.ensures)

pub returns-in-None : goal.returns-in-None
returns-in-None c =
    let is : c.fault.result ≡ fault NAMES_COUNTS (c.read_length.new.cursor.at + 4) = rw (← c.at-first.ensures) c.fault.ensures in
    rw is (at_tables c.args.section.now c.in_ok-wide.wide c.read_length.new.cursor (rw c.new-cursor.ensures at c.in_ok-wide.ensures.value) (record {}) c.read_version.new.cursor c.in_ok-read_version.ensures.value
    ∙ ap (λ (o : Option Tables). some_or o (fault NAMES_COUNTS (c.read_length.new.cursor.at + 4))) (sym c.in-None.ensures))
