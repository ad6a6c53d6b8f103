use Rattle.std.proofs.Common.{◌≡◌, ◌∙◌, arith, false}
use Rattle.index_model.specs.Sections.{names_fit}
use Rattle.file_image.proofs.Tables.{refused, accepted, header_in_table}
use Rattle.file_image.proofs.table.SectionHeaders.open.Goals as goal
use Rattle.file_image.proofs.table.SectionHeaders.open.Goals.{then-count-headers-via-then-count-headers, then-count-headers-via-else-count-headers+then-from-count}

pub section_count-count-requires-clause-first : goal.section_count-count-requires-clause-first
section_count-count-requires-clause-first c = c.header_in-first.ensures.own ∙ header_in_table c.args.file.now c.in_ok-headers.headers.now 0 c.in_ok-headers.ensures.bytes

pub index_of_names-index-requires-clause-first : goal.index_of_names-index-requires-clause-first
index_of_names-index-requires-clause-first c = c.header_in-first.ensures.own ∙ header_in_table c.args.file.now c.in_ok-headers.headers.now 0 c.in_ok-headers.ensures.bytes

pub returns-then-count-headers : goal.returns-then-count-headers
returns-then-count-headers c =
    let long = c.in_ok-headers.ensures.long in
    refused c.args.file.now (λ width inside named fit.
    elim c.then-count-headers.branch [
      | then-count-headers-via-then-count-headers w ↦ omega (arith, inside, long, w.if-count-headers.true, c.section_count-count.ensures)
      | then-count-headers-via-else-count-headers+then-from-count w ↦ omega (arith, named, w.if-from-count.true, c.index_of_names-index.ensures, c.section_count-count.ensures)
    ])

pub returns : goal.returns
returns c =
    let headers = c.in_ok-headers.ensures in
    record {
      fits = accepted c.args.file.now headers.width (omega (arith, headers.long, c.if-count-headers.false, c.section_count-count.ensures)) (omega (arith, c.if-from-count.false, c.from.ensures, c.index_of_names-index.ensures, c.section_count-count.ensures)) c.in-Some.ensures.0;
      headers = headers.bytes;
      count = c.section_count-count.ensures;
      names = c.in-Some.ensures.1;
    }

pub returns-in_default : goal.returns-in_default
returns-in_default c = refused c.args.file.now (λ width inside named fit. let unfit : names_fit c.args.file.now ≡ false = c.in_default.ensures in absurd cc)
