use Rattle.std.proofs.Common.{◌∙◌}
use Rattle.file_image.specs.Headers.{header_of}
use Rattle.file_image.proofs.Tables.{header_in_table}
use Rattle.file_image.proofs.Fronts.{section_unfit, section_unnamed, section_found}
use Rattle.file_image.proofs.found.section_at.Goals as goal

pub returns-in_default-clause-value : goal.returns-in_default-clause-value
returns-in_default-clause-value c =
    let file = c.args.file.now in
    let is = c.header-header.ensures.own ∙ header_in_table file c.args.table.now.headers.now c.args.index c.requires.table.headers in
    rw (c.table_fault.ensures, ← is) (section_unfit file c.args.index (header_of c.header-header.result) c.in_default.ensures)

pub returns-in_default-name-clause-value : goal.returns-in_default-name-clause-value
returns-in_default-name-clause-value c =
    let file = c.args.file.now in
    let is = c.header-header.ensures.own ∙ header_in_table file c.args.table.now.headers.now c.args.index c.requires.table.headers in
    rw (c.table_fault-in_default-name.ensures, ← is) (section_unnamed file c.args.index (header_of c.header-header.result) c.in-Some.ensures.0 (rw (c.requires.table.names) at c.in_default-name.ensures))

pub returns-clause-value : goal.returns-clause-value
returns-clause-value c =
    let file = c.args.file.now in
    let is = c.header-header.ensures.own ∙ header_in_table file c.args.table.now.headers.now c.args.index c.requires.table.headers in
    rw (c.in-Some.ensures.1, ← is) (section_found file c.args.index (header_of c.header-header.result) c.in-Some-name.name.now c.in-Some.ensures.0 (rw (c.requires.table.names) at c.in-Some-name.ensures))
