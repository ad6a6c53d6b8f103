use Rattle.std.proofs.Common.{◌+◌, ◌≤◌, length, arith, rules, sym, ◌∙◌, ap}
use Rattle.index_model.specs.Sections.{names_index}
use Rattle.file_image.specs.Headers.{section_header_at}
use Rattle.elf_add.proofs.NameBytes.{first_has_none, names_are, names_inside, no_names}
use Rattle.elf_add.proofs.names.name_bytes.Goals as goal
use Rattle.elf_add.proofs.names.name_bytes.Goals.{in_default-via-in-Some+then-index-ne0+else-has_bytes, in_default-via-in-Some+else-index-ne0, in_default-via-in_default}

pub overflow_add-end : goal.overflow_add-end
overflow_add-end c =
    let at = c.names-index.ensures.value ∙ ap names_index c.requires.table in
    let is = c.in-Some.ensures.1 ∙ ap (λ f. section_header_at f c.names-index.result) c.requires.table in
    let inside : c.in-Some.header.at + c.in-Some.header.size ≤ length c.args.file.now = names_inside c.args.file.now c.names-index.result c.in-Some.header at is c.if-index-ne0.true (sym c.if-has_bytes.ensures) c.requires.fits in
    search rules

pub slice_bounds-result-end : goal.slice_bounds-result-end
slice_bounds-result-end c =
    let at = c.names-index.ensures.value ∙ ap names_index c.requires.table in
    let is = c.in-Some.ensures.1 ∙ ap (λ f. section_header_at f c.names-index.result) c.requires.table in
    let inside : c.in-Some.header.at + c.in-Some.header.size ≤ length c.args.file.now = names_inside c.args.file.now c.names-index.result c.in-Some.header at is c.if-index-ne0.true (sym c.if-has_bytes.ensures) c.requires.fits in
    search rules

pub returns-in-Some : goal.returns-in-Some
returns-in-Some c =
    let at = c.names-index.ensures.value ∙ ap names_index c.requires.table in
    let is = c.in-Some.ensures.1 ∙ ap (λ f. section_header_at f c.names-index.result) c.requires.table in
    names_are c.args.file.now c.names-index.result c.in-Some.header at is c.if-index-ne0.true (sym c.if-has_bytes.ensures)

pub returns-in_default : goal.returns-in_default
returns-in_default c =
    let at = c.names-index.ensures.value ∙ ap names_index c.requires.table in
    elim c.in_default.branch [
      | in_default-via-in-Some+then-index-ne0+else-has_bytes w ↦ no_names c.args.file.now c.names-index.result w.in-Some.header at (w.in-Some.ensures.1 ∙ ap (λ f. section_header_at f c.names-index.result) c.requires.table) (sym w.if-has_bytes.ensures)
      | in_default-via-in-Some+else-index-ne0 w ↦ first_has_none c.args.file.now (sym at ∙ w.if-index-ne0.false)
      | in_default-via-in_default w ↦ absurd (omega (arith, w.in_default.ensures, c.names-index.ensures.inside))
    ]
