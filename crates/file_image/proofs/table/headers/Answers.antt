use Rattle.std.proofs.Common.{◌∙◌, arith, length-drop, sym, refl}
use Rattle.index_model.specs.Sections.{table_at}
use Rattle.file_image.proofs.Tables.{refused, no_sections, rest_is}
use Rattle.file_image.proofs.table.headers.Goals as goal
use Rattle.file_image.proofs.table.headers.Goals.{then-at-eq0-via-then-at-eq0, then-at-eq0-via-else-at-eq0+then-at-file, then-at-eq0-via-else-at-eq0+else-at-file+then-header_length-ne-SECTION_HEADER_LENGTH}

pub returns-then-at-eq0 : goal.returns-then-at-eq0
returns-then-at-eq0 c =
    refused c.args.file.now (λ width inside named fit.
    elim c.then-at-eq0.branch [
      | then-at-eq0-via-then-at-eq0 w ↦ omega (arith, named, no_sections c.args.file.now (omega (arith, w.if-at-eq0.true, c.table_offset-at.ensures)))
      | then-at-eq0-via-else-at-eq0+then-at-file w ↦ omega (arith, inside, w.if-at-file.true, c.table_offset-at.ensures)
      | then-at-eq0-via-else-at-eq0+else-at-file+then-header_length-ne-SECTION_HEADER_LENGTH w ↦ w.if-header_length-ne-SECTION_HEADER_LENGTH.true (w.header_length.ensures ∙ width)
    ])

pub returns-then-headers-lt-SECTION_HEADER_LENGTH : goal.returns-then-headers-lt-SECTION_HEADER_LENGTH
returns-then-headers-lt-SECTION_HEADER_LENGTH c =
    let file = c.args.file.now in
    let short = rw (rest_is c.table_offset-at.result file, c.table_offset-at.ensures) at c.if-headers-lt-SECTION_HEADER_LENGTH.true in
    refused file (λ width inside named fit. omega (arith, inside, named, short, length-drop (table_at file) file))

pub returns : goal.returns
returns c =
    let file = c.args.file.now in
    let at = c.table_offset-at.result in
    rw (rest_is at file, c.table_offset-at.ensures) (record {
      some = omega (arith, c.if-at-eq0.false, c.table_offset-at.ensures);
      width = sym c.header_length.ensures ∙ c.if-header_length-ne-SECTION_HEADER_LENGTH.false;
      first = rw (rest_is at file, c.table_offset-at.ensures) at c.if-headers-lt-SECTION_HEADER_LENGTH.false;
      bytes = refl;
      long = omega (arith, length-drop (table_at file) file, c.if-at-file.false, c.table_offset-at.ensures);
    })
